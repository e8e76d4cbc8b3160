-- What is said of all of a list is said of each member.
use Rattle.std.proofs.Common.{inl, inr, List, [], ◌∷◌, sym}
use Rattle.std.specs.Prelude.{All}
use Rattle.std.proofs.lemmas.List.Elements.{All-contains}
use Rattle.sqlite_rules.specs.Lists.{Has}
use Rattle.acq_soundness.proofs.Members.{In, from_In}

pub in_from : {X : Type 0} (xs : List X) (x : X) → Has xs x → In x xs
in_from [] x here = absurd here
in_from (y ∷ xs) x (inl is) = inl (sym is)
in_from (y ∷ xs) x (inr there) = inr (in_from xs x there)

pub fits_each : {X : Type 0} (P : X → Type 0) (xs : List X) (x : X) → All P xs → Has xs x → P x
fits_each P xs x all here = All-contains P xs x all (from_In x xs (in_from xs x here))
