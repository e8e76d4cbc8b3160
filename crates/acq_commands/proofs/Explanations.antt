-- What is said of events, one after another.
use Rattle.std.proofs.Common.{◌≡◌, ℕ, ◌+◌, ◌<◌, List, [], ◌∷◌, ◌++◌, take, length, sym, ap, ◌∙◌}
use Rattle.std.proofs.Common.{append-nil, get_or}
use Rattle.std.proofs.lemmas.List.{map-append, take_more}
use Rattle.std.proofs.lemmas.List.Concat.{flat_map-append}
use Rattle.acq_core.specs.declared.event.Event.{Event}
use Rattle.acq_core.specs.declared.event.Event.TheVariants.{Frame}
use Rattle.acq_core.specs.Tables.{Tables}
use Rattle.acq_explain.specs.Explained.{explained_in}
use Rattle.acq_commands.specs.Explain.{came_at, explanations}

-- of one event more
pub explained_next : (t : Tables) (events : List Event) (at : ℕ) (e : Event) →
    at < length events → e ≡ get_or events at e →
    explanations t (take (at + 1) events) ≡ explanations t (take at events) ++ explained_in t e
explained_next t events at e within is =
    ap (explanations t) (take_more events at e within
    ∙ ap (λ x. take at events ++ x ∷ []) (sym is))
    ∙ (flat_map-append (explained_in t) (take at events) (e ∷ [])
    ∙ ap (λ x. explanations t (take at events) ++ x) (append-nil (explained_in t e)))

-- ---- messages that come at a moment

pub came_none : (moment : ℕ) (events : List Event) → events ≡ [] → events ≡ came_at moment []
came_none moment events none = none

-- one message more
pub came_more : (moment : ℕ) (messages : List (List ℕ)) (message text : List ℕ)
    (old new : List Event) → old ≡ came_at moment messages → text ≡ message →
    new ≡ old ++ Frame moment text ∷ [] → new ≡ came_at moment (messages ++ message ∷ [])
came_more moment messages message text old new was is put =
    put
    ∙ (ap (λ x. x ++ Frame moment text ∷ []) was
    ∙ (ap (λ t. came_at moment messages ++ Frame moment t ∷ []) is
    ∙ sym (map-append (λ m. Frame moment m) messages (message ∷ []))))
