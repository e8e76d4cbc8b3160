-- What the lists come to before the running totals are raised, in a change that first changes an
-- earlier request, and that its day stays within its columns.
use Rattle.std.proofs.Common.{ℕ, Option, refl}
use Rattle.iso_codec.specs.Message.{IsoMessage}
use Rattle.acq_message.specs.declared.request_key.RequestKey.{RequestKey}
use Rattle.acq_core.specs.declared.posting.Posting.{Posting}
use Rattle.acq_core.specs.declared.remains.Remains.{Remains}
use Rattle.acq_core.specs.declared.request.Request.{Request}
use Rattle.acq_core.specs.declared.status.Status.{Status}
use Rattle.acq_core.specs.Tables.{Tables, answered_row, followed_row}
use Rattle.acq_sql_rows.specs.Tallies.{request_tally, posting_tally}
use Rattle.acq_sql_writes.specs.Written.{with_answer, with_posting, with_remains, with_request}
use Rattle.acq_sql_changes.specs.Changed.{HasRoomFor, HasRoomToPost, HasRoomToFollow}
use Rattle.acq_sql_changes.proofs.ListTallies.{ComesToMore, LeavesDay, request_and_posting_tally}
use Rattle.acq_sql_changes.proofs.ListTallies.{changed_tally, comes_after, tally_followed}
use Rattle.acq_sql_changes.proofs.ListTallies.{tally_posted, tally_requested}
use Rattle.acq_sql_changes.proofs.Room.{HasShortDays, changed_room, changed_short, posting_short}
use Rattle.acq_sql_changes.proofs.Room.{request_short}

-- ---- an answer that posts

module _ (of : RequestKey) (status : Status) (reply : IsoMessage) (hold_end : Option ℕ) (n : ℕ)
    (p : Posting) (t : Tables) where
  answer_leaves : LeavesDay (answered_row status reply hold_end)
  answer_leaves row = (refl, refl, refl)

  abbrev answered : Tables
  answered = with_answer of status reply hold_end t

  pub answer_comes : ComesToMore t (with_posting n p answered) p.merchant p.day (posting_tally p)
  answer_comes =
      comes_after t answered (with_posting n p answered) p.merchant p.day (posting_tally p)
      (changed_tally t of (answered_row status reply hold_end) answer_leaves)
      (tally_posted answered n p)

  pub answer_short : HasRoomToPost n p t → HasShortDays t → HasShortDays (with_posting n p answered)
  answer_short room short =
      posting_short answered n p
      (changed_short t of (answered_row status reply hold_end) answer_leaves short) room.0

-- ---- a request that follows another

module _ (r : Request) (of : RequestKey) (remains : Remains) (t : Tables) where
  follow_leaves : LeavesDay (followed_row remains)
  follow_leaves row = (refl, refl, refl)

  abbrev followed : Tables
  followed = with_remains of remains t

  pub follow_comes :
      ComesToMore t (with_request r followed) r.key.merchant r.day (request_tally r)
  follow_comes =
      comes_after t followed (with_request r followed) r.key.merchant r.day (request_tally r)
      (changed_tally t of (followed_row remains) follow_leaves) (tally_requested followed r)

  pub follow_short : HasRoomFor r t → HasShortDays t → HasShortDays (with_request r followed)
  follow_short room short =
      request_short followed r (changed_short t of (followed_row remains) follow_leaves short)
      (changed_room t of (followed_row remains) follow_leaves r room)

  module _ (n : ℕ) (p : Posting) (room : HasRoomToFollow r n p t) where
    abbrev posted : Tables
    posted = with_posting n p (with_request r followed)

    pub follow_and_post_comes :
        ComesToMore t posted r.key.merchant r.day (request_and_posting_tally r p)
    follow_and_post_comes =
        comes_after t followed posted r.key.merchant r.day (request_and_posting_tally r p)
        (changed_tally t of (followed_row remains) follow_leaves)
        (tally_followed followed n r p room.2)

    pub follow_and_post_short : HasShortDays t → HasShortDays posted
    follow_and_post_short short =
        posting_short (with_request r followed) n p (follow_short room.0 short) room.1.0
