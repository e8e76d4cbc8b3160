use Rattle.std.proofs.Common.{◌≡◌, ◌∙◌, ◌-◌, ◌≤◌, ℕ, Bool, List, [], ◌∷◌, length, take, drop}
use Rattle.std.proofs.Common.{get_or, rules, tests, ap, arith}
use Rattle.std.specs.Char.{is_ascii_digit}
use Rattle.std.specs.List.{list_all}
use Rattle.std.proofs.lemmas.Iterator.{YieldsList-from_slice}
use Rattle.std.proofs.lemmas.Iterator.Search.{all_from_yields_List}
use Rattle.std.proofs.lemmas.List.{take_all}
use Rattle.acq_page.specs.Requests.{is_port}
use Rattle.acq_page.proofs.host_name.is_port.Goals as goal

port : (bytes : List ℕ) (all : Bool) → 1 ≤ length bytes → get_or bytes 0 0 ≡ 58
    → all ≡ list_all is_ascii_digit (take (length bytes - 1) (drop 1 bytes))
    → all ≡ is_port bytes
port [] all some first e = grind arith
port (byte ∷ digits) all some first e =
    rw first (e ∙ ap (list_all is_ascii_digit) (take_all _ digits (omega arith)))

pub returns-in-58 : goal.returns-in-58
returns-in-58 c =
    let first : get_or c.args.bytes.now 0 0 ≡ 58 = search rules in
    port _ _ c.in-58.len_at_least first
    (all_from_yields_List is_ascii_digit _ _ c.all.result c.all.ensures.ran
    (YieldsList-from_slice _ c.iter.ensures.rest) (λ x b q k. search (rules, tests)))
