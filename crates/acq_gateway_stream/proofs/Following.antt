-- Steps of a connection, one behind the other.
use Rattle.std.proofs.Common.{◌≡◌, ◌∙◌, ◌++◌, ◌∷◌, ℕ, List, [], Option, Some, None}
use Rattle.std.proofs.Common.{inl, inr, drop, take, length, refl, sym, ap, append-nil}
use Rattle.std.proofs.Common.{append_assoc, subst, arith}
use Rattle.std.specs.Prelude.{unwrap_or}
use Rattle.std.proofs.lemmas.List.{drop-append-le, length-append, take-append-drop}
use Rattle.acq_core.specs.Tables.{Tables}
use Rattle.acq_gateway.specs.declared.gateway.Gateway.{Gateway}
use Rattle.acq_gateway.specs.Telling.{Begins, IsHeld, IsNew, TellsRows, unsent_of}
use Rattle.acq_gateway_stream.specs.Stream.{AreSteps, AskNothing, AsksNothing, Follow, IsStep}
use Rattle.acq_gateway_stream.specs.Stream.{Piece, Step, behind, piece_by, piece_of, pieces_by}
use Rattle.acq_gateway_stream.specs.Stream.{told_by, wrote_by}

-- ---- bytes

-- what one step adds
record Adds (from : Gateway) (step : Step) : Type 0 where
  held : IsHeld step.to
  text : step.wrote ++ unsent_of step.to ≡ unsent_of from ++ step.told

-- behind what was held
held_on : (g h : Gateway) (text : List ℕ) → IsHeld g → h.output.items ≡ g.output.items ++ text →
    h.gone ≡ g.gone → IsHeld h
held_on g h text held output gone =
    let n = ap length output ∙ length-append g.output.items text in
    omega (arith, held, gone, n)

unsent_on : (g h : Gateway) (text : List ℕ) → IsHeld g → h.output.items ≡ g.output.items ++ text →
    h.gone ≡ g.gone → unsent_of h ≡ unsent_of g ++ text
unsent_on g h text held output gone =
    ap (λ n. drop n h.output.items) gone ∙ ap (λ l. drop g.gone l) output
    ∙ drop-append-le g.gone g.output.items text held

-- where nothing is written
told_alone : (from : Gateway) (step : Step) (text : List ℕ) → step.wrote ≡ [] → step.told ≡ text →
    IsHeld from → step.to.output.items ≡ from.output.items ++ text → step.to.gone ≡ from.gone →
    Adds from step
told_alone from step text wrote told held output gone = record {
  held = held_on from step.to text held output gone;
  text = ap (λ l. l ++ unsent_of step.to) wrote
      ∙ unsent_on from step.to text held output gone
      ∙ ap (λ l. unsent_of from ++ l) (sym told);
}

adds : (from : Gateway) (step : Step) → IsHeld from → IsStep from step → Adds from step
adds from step held (inl took) =
    told_alone from step _ took.wrote took.told held took.takes.output took.takes.gone
adds from step held (inr (inl looked)) =
    told_alone from step _ looked.wrote looked.told held looked.tells.output looked.tells.gone
adds from step held (inr (inr (inl wrote))) = record {
  held = wrote.held;
  text = ap (λ l. l ++ unsent_of step.to) wrote.wrote
      ∙ ap (λ l. take wrote.bytes (unsent_of from) ++ l) wrote.unsent
      ∙ take-append-drop wrote.bytes (unsent_of from)
      ∙ sym (append-nil (unsent_of from))
      ∙ ap (λ l. unsent_of from ++ l) (sym wrote.told);
}
adds from step held (inr (inr (inr waited))) =
    told_alone from step [] waited.wrote waited.told held
    (ap (λ o. o.items) waited.stays.output ∙ sym (append-nil from.output.items)) waited.stays.gone

all_add : (from : Gateway) (steps : List Step) → IsHeld from → AreSteps from steps →
    wrote_by steps ++ unsent_of (behind from steps) ≡ unsent_of from ++ told_by steps
all_add from [] held none = sym (append-nil (unsent_of from))
all_add from (step ∷ steps) held are =
    let one = adds from step held are.0 in
    let end = unsent_of (behind step.to steps) in
    append_assoc step.wrote (wrote_by steps) end
    ∙ ap (λ l. step.wrote ++ l) (all_add step.to steps one.held are.1)
    ∙ sym (append_assoc step.wrote (unsent_of step.to) (told_by steps))
    ∙ ap (λ l. l ++ told_by steps) one.text
    ∙ append_assoc (unsent_of from) step.told (told_by steps)

pub new_connection : (gateway : Gateway) (steps : List Step) → IsNew gateway →
    AreSteps gateway steps →
    wrote_by steps ++ unsent_of (behind gateway steps) ≡ told_by steps
new_connection gateway steps new are =
    all_add gateway steps new.held are ∙ ap (λ l. l ++ told_by steps) new.unsent

-- ---- rows

same_number : {a b : ℕ} → Some a ≡ Some b → a ≡ b
same_number {a} {b} e = ap (λ o. unwrap_or o a) e

-- it was told so many rows, and asks for none
record Stands (gateway : Gateway) (told : ℕ) : Type 0 where
  rows : gateway.rows ≡ Some told
  from : gateway.from ≡ None

pieces_both : (begin : ℕ) (a b : List Piece) (mid end : ℕ) → Follow begin a mid →
    Follow mid b end → Follow begin (a ++ b) end
pieces_both begin [] b mid end is rest = subst (λ n. Follow n b end) (sym is) rest
pieces_both begin (piece ∷ a) b mid end is rest =
    (is.0, pieces_both piece.ends a b mid end is.1 rest)

told_follow : (t : Tables) (moment : ℕ) (old new : Option ℕ) (text : List ℕ) (begin : ℕ) →
    old ≡ Some begin → (rows : TellsRows t moment old new text) →
    (end : ℕ) × (new ≡ Some end) × Follow begin (piece_of rows) end
told_follow t moment old new text begin is (inl none) = (begin, none.1 ∙ is, refl)
told_follow t moment old new text begin is (inr some) =
    (some.2.rows, some.6, (same_number (sym some.3 ∙ is), refl))

begun_there : (from : Gateway) (begin : ℕ) (told : Option ℕ) → Stands from begin →
    Begins from told → told ≡ Some begin
begun_there from begin told at (inl same) = same ∙ at.rows
begun_there from begin told at (inr asked) =
    let never = sym asked.1 ∙ at.from in absurd (cc never)

-- one step goes on where it stands
step_follows : (from : Gateway) (step : Step) (begin : ℕ) → Stands from begin →
    (is : IsStep from step) → AsksNothing is →
    (end : ℕ) × Stands step.to end × Follow begin (piece_by is) end
step_follows from step begin at (inl took) asks =
    (begin, record { rows = asks.0 ∙ at.rows; from = asks.1 ∙ at.from }, refl)
step_follows from step begin at (inr (inl looked)) asks =
    let tells = looked.tells in
    let told = told_follow looked.tables looked.moment tells.told step.to.rows tells.lines begin
    (begun_there from begin tells.told at tells.begins) tells.rows in
    (told.0, record { rows = told.1; from = tells.from }, told.2)
step_follows from step begin at (inr (inr (inl wrote))) asks =
    (begin, record { rows = wrote.rows ∙ at.rows; from = wrote.asked ∙ at.from }, refl)
step_follows from step begin at (inr (inr (inr waited))) asks =
    (begin, record { rows = waited.stays.rows ∙ at.rows; from = waited.stays.from ∙ at.from }, refl)

all_follow : (from : Gateway) (steps : List Step) (begin : ℕ) → Stands from begin →
    (are : AreSteps from steps) → AskNothing from steps are →
    (end : ℕ) × ((behind from steps).rows ≡ Some end) × Follow begin (pieces_by from steps are) end
all_follow from [] begin at none asks = (begin, at.rows, refl)
all_follow from (step ∷ steps) begin at are asks =
    let one = step_follows from step begin at are.0 asks.0 in
    let rest = all_follow step.to steps one.0 one.1 are.1 asks.1 in (
      rest.0,
      rest.1,
      pieces_both begin (piece_by are.0) (pieces_by step.to steps are.1) one.0 rest.0
          one.2 rest.2,
    )

pub rows_follow : (gateway : Gateway) (steps : List Step) (begin : ℕ) →
    gateway.rows ≡ Some begin → gateway.from ≡ None →
    (are : AreSteps gateway steps) → AskNothing gateway steps are →
    (end : ℕ) × ((behind gateway steps).rows ≡ Some end)
    × Follow begin (pieces_by gateway steps are) end
rows_follow gateway steps begin rows from are asks =
    all_follow gateway steps begin (record { rows = rows; from = from }) are asks
