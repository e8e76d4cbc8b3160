pub mod Inquiries
pub mod RequestLines
pub mod PostingLines
pub mod InquiryTexts
pub mod Gathering
pub mod KeptPostings
pub mod Searching
pub mod Worked
