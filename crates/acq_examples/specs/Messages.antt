-- Frames and replies of the worked rows, by what differs among them.
use Rattle.std.specs.Prelude.{ℕ, List, ◌++◌, codes}
use Prim.Native.String.{String}

-- ---- names that recur

-- the first of two merchants that most rows enrol
abbrev pub merchant_a : List ℕ
merchant_a = codes "MERCHANT0000001"

-- the second
abbrev pub merchant_b : List ℕ
merchant_b = codes "MERCHANT0000002"

-- one that isn't enrolled there
abbrev pub merchant_c : List ℕ
merchant_c = codes "MERCHANT0000003"

-- the terminal of each of the two
abbrev pub terminal : List ℕ
terminal = codes "TERM0001"

-- another, which rows add or do without
abbrev pub other_terminal : List ℕ
other_terminal = codes "TERM0009"

-- ---- requests with a card, of 2024-05-01 09:30: elements 2, 3, 4, 7, 11, 41, 42, 49

-- of any type, card and processing code
abbrev pub card_request : String → String → String → String → String → List ℕ → List ℕ
card_request kind card processing amount trace merchant =
    codes kind ++ codes "7220000000C08000" ++ codes "16" ++ codes card ++ codes processing
    ++ codes amount
    ++ codes "0501093000" ++ codes trace ++ terminal ++ merchant ++ codes "978"

-- a sale
abbrev pub sale : String → String → List ℕ → List ℕ
sale trace amount merchant = card_request "0200" "4111111111111111" "000000" amount trace merchant

-- the same, marked as a repeat
abbrev pub sale_again : String → String → List ℕ → List ℕ
sale_again trace amount merchant =
    card_request "0201" "4111111111111111" "000000" amount trace merchant

-- a return
abbrev pub card_return : String → String → List ℕ → List ℕ
card_return trace amount merchant =
    card_request "0200" "4111111111111111" "200000" amount trace merchant

-- an authorization, for a hold
abbrev pub hold : String → String → List ℕ → List ℕ
hold trace amount merchant = card_request "0100" "5500005555555559" "000000" amount trace merchant

-- the same, marked as a repeat
abbrev pub hold_again : String → String → List ℕ → List ℕ
hold_again trace amount merchant =
    card_request "0101" "5500005555555559" "000000" amount trace merchant

-- ---- their replies

-- approved: elements 15, 37, 38 and 39 besides
abbrev pub card_approved : String → String → String → String → String → String → String → String →
    List ℕ → List ℕ
card_approved kind card processing amount trace day reference id merchant =
    codes kind ++ codes "722200000EC08000" ++ codes "16" ++ codes card ++ codes processing
    ++ codes amount
    ++ codes "0501093000" ++ codes trace ++ codes day ++ codes reference ++ codes id ++ codes "00"
    ++ terminal ++ merchant ++ codes "978"

-- declined by the issuer: 15, 37 and 39
abbrev pub card_declined : String → String → String → String → String → String → String → String →
    List ℕ → List ℕ
card_declined kind card processing amount trace day reference code merchant =
    codes kind ++ codes "722200000AC08000" ++ codes "16" ++ codes card ++ codes processing
    ++ codes amount
    ++ codes "0501093000" ++ codes trace ++ codes day ++ codes reference ++ codes code ++ terminal
    ++ merchant ++ codes "978"

-- refused by the host: 15 and 39
abbrev pub card_refused : String → String → String → String → String → String → String → List ℕ →
    List ℕ
card_refused kind card processing amount trace day code merchant =
    codes kind ++ codes "7222000002C08000" ++ codes "16" ++ codes card ++ codes processing
    ++ codes amount
    ++ codes "0501093000" ++ codes trace ++ codes day ++ codes code ++ terminal ++ merchant
    ++ codes "978"

-- an approved sale
abbrev pub sale_approved : String → String → String → String → List ℕ → List ℕ
sale_approved trace amount day reference merchant =
    card_approved "0210" "4111111111111111" "000000" amount trace day reference "A1B2C3" merchant

-- a sale that its issuer declined
abbrev pub sale_declined : String → String → String → String → String → List ℕ → List ℕ
sale_declined trace amount day reference code merchant =
    card_declined "0210" "4111111111111111" "000000" amount trace day reference code merchant

-- a sale that the host refused
abbrev pub sale_refused : String → String → String → String → List ℕ → List ℕ
sale_refused trace amount day code merchant =
    card_refused "0210" "4111111111111111" "000000" amount trace day code merchant

-- an approved authorization
abbrev pub hold_approved : String → String → String → String → List ℕ → List ℕ
hold_approved trace amount day reference merchant =
    card_approved "0110" "5500005555555559" "000000" amount trace day reference "H00001" merchant

-- an authorization that its issuer declined
abbrev pub hold_declined : String → String → String → String → String → List ℕ → List ℕ
hold_declined trace amount day reference code merchant =
    card_declined "0110" "5500005555555559" "000000" amount trace day reference code merchant

-- an authorization that the host refused
abbrev pub hold_refused : String → String → String → String → List ℕ → List ℕ
hold_refused trace amount day code merchant =
    card_refused "0110" "5500005555555559" "000000" amount trace day code merchant

-- ---- completions, of 2024-05-02 09:30: elements 3, 4, 7, 11, 37, 41, 42, 49

-- of a type, from a terminal
abbrev pub completion_as : String → String → String → String → List ℕ → List ℕ → List ℕ
completion_as kind trace amount reference terminal merchant =
    codes kind ++ codes "3220000008C08000" ++ codes "000000" ++ codes amount ++ codes "0502093000"
    ++ codes trace
    ++ codes reference ++ terminal ++ merchant ++ codes "978"

-- from the terminal of the hold
abbrev pub completion : String → String → String → List ℕ → List ℕ
completion trace amount reference merchant =
    completion_as "0220" trace amount reference terminal merchant

-- its reply: 15 and 39 besides
abbrev pub completion_reply : String → String → String → String → String → List ℕ → List ℕ
completion_reply trace amount day reference code merchant =
    codes "0230" ++ codes "322200000AC08000" ++ codes "000000" ++ codes amount ++ codes "0502093000"
    ++ codes trace
    ++ codes day ++ codes reference ++ codes code ++ terminal ++ merchant ++ codes "978"

-- ---- reversals, of 2024-05-01 09:31: elements 4, 7, 11, 41, 42, 90

-- element 90: an original's type, trace, transmission date and time, acquirer and forwarder
abbrev pub original_through : String → String → String → String → String → List ℕ
original_through kind trace transmission acquirer forwarder =
    codes kind ++ codes trace ++ codes transmission ++ codes acquirer ++ codes forwarder

-- with neither acquirer nor forwarder
abbrev pub original : String → String → String → List ℕ
original kind trace transmission =
    original_through kind trace transmission "00000000000" "00000000000"

-- of a type
abbrev pub reversal_as : String → String → String → List ℕ → List ℕ → List ℕ
reversal_as kind trace amount original merchant =
    codes kind ++ codes "9220000000C00000" ++ codes "0000004000000000" ++ codes amount
    ++ codes "0501093100" ++ codes trace
    ++ terminal ++ merchant ++ original

-- an advice
abbrev pub reversal : String → String → List ℕ → List ℕ → List ℕ
reversal trace amount original merchant = reversal_as "0420" trace amount original merchant

-- accepted: 15, 37 and 39 besides, without 90
abbrev pub reversal_accepted : String → String → String → String → List ℕ → List ℕ
reversal_accepted trace amount day reference merchant =
    codes "0430" ++ codes "122200000AC00000" ++ codes amount ++ codes "0501093100" ++ codes trace
    ++ codes day ++ codes reference
    ++ codes "00" ++ terminal ++ merchant

-- refused: 15 and 39
abbrev pub reversal_refused : String → String → String → String → List ℕ → List ℕ
reversal_refused trace amount day code merchant =
    codes "0430" ++ codes "1222000002C00000" ++ codes amount ++ codes "0501093100" ++ codes trace
    ++ codes day ++ codes code
    ++ terminal ++ merchant

-- ---- reconciliations, of 2024-05-01 10:00

-- elements 74 to 77, 86 to 89 and 97: how many credits, credit reversals, debits and debit
-- reversals, their amounts, and the net
abbrev pub totals : String → String → String → String → String → String → String → String → String →
    List ℕ
totals credits credit_reversals debits debit_reversals credited credits_reversed debited
    debits_reversed net =
    codes credits ++ codes credit_reversals ++ codes debits ++ codes debit_reversals
    ++ codes credited ++ codes credits_reversed ++ codes debited ++ codes debits_reversed
    ++ codes net

-- those of a day with nothing but debits
abbrev pub totals_of_debits : String → String → String → List ℕ
totals_of_debits debits debited net =
    totals "0000000000" "0000000000" debits "0000000000" "0000000000000000" "0000000000000000"
    debited "0000000000000000" net

-- those of a day with nothing
abbrev pub no_totals : String → List ℕ
no_totals net = totals_of_debits "0000000000" "0000000000000000" net

-- of today: elements 7, 11, 41, 42, and the totals
abbrev pub reconciliation : String → List ℕ → List ℕ → List ℕ
reconciliation trace claimed merchant =
    codes "0500" ++ codes "8220000000C00000" ++ codes "0078078080000000" ++ codes "0501100000"
    ++ codes trace ++ terminal ++ merchant ++ claimed

-- of the day in element 15
abbrev pub reconciliation_of : String → String → List ℕ → List ℕ → List ℕ
reconciliation_of trace day claimed merchant =
    codes "0500" ++ codes "8222000000C00000" ++ codes "0078078080000000" ++ codes "0501100000"
    ++ codes trace ++ codes day
    ++ terminal ++ merchant ++ claimed

-- the reply where there is such a day: 15, 39 and 66 besides, and the host's totals
abbrev pub reconciliation_reply : String → String → String → String → List ℕ → List ℕ → List ℕ
reconciliation_reply trace day code settlement kept merchant =
    codes "0510" ++ codes "8222000002C00000" ++ codes "4078078080000000" ++ codes "0501100000"
    ++ codes trace ++ codes day
    ++ codes code ++ terminal ++ merchant ++ codes settlement ++ kept

-- the reply without totals: 15 and 39 alone
abbrev pub reconciliation_refused : String → String → String → List ℕ → List ℕ
reconciliation_refused trace day code merchant =
    codes "0510" ++ codes "0222000002C00000" ++ codes "0501100000" ++ codes trace ++ codes day
    ++ codes code ++ terminal ++ merchant
