-- Tokens, put one after another.
use Rattle.std.proofs.Common.{List, ◌∷◌, [], ◌++◌, ap, ◌∙◌, append_assoc}
use Rattle.std.specs.Prelude.{Ok, Result}
use Rattle.std.proofs.lemmas.Result.{on_ok_weaker}
use Rattle.json.specs.Token.{Token}
use Rattle.json.specs.Written.{Written, Writes}
use Rattle.acq_json.specs.Written.{Behind, Puts}

pub wrote : {E : Type 0} {u : Unit {0}} {a b : Written} {t : Token} → Writes {E = E} (Ok u) a b t
    → Behind a b (t ∷ [])
wrote put = record { before = put.room.0; tokens_put = put.ok }

pub and_then : {a b c : Written} {ts us : List Token} → Behind a b ts → Behind b c us
    → Behind a c (ts ++ us)
and_then {a} {b} {c} {ts} {us} some more = record {
  before = more.before ∙ some.before;
  tokens_put =
      more.tokens_put ∙ ap (λ (x : List Token). x ++ us) some.tokens_put
      ∙ append_assoc a.tokens ts us;
}

-- and a last one
pub and_last : {E : Type 0} (r : Result (Unit {0}) E) {a b : Written} (c : Written)
    {ts : List Token} (t : Token) → Behind a b ts → Writes r b c t → Puts r a c (ts ++ t ∷ [])
and_last r c t some last =
    on_ok_weaker r
    (λ put. and_then some (record { before = last.room.0; tokens_put = put })) last.ok
