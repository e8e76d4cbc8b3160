-- The frames of lists of messages.
use Rattle.std.proofs.Common.{◌≡◌, ℕ, List, [], ◌∷◌, ◌++◌, append_assoc, append-nil, refl, sym, ap}
use Rattle.std.proofs.Common.{◌∙◌}
use Rattle.acq_link.specs.Frames.{frame, framed}

-- the frames of two lists, one after the other
pub framed-append : (messages more : List (List ℕ)) →
    framed (messages ++ more) ≡ framed messages ++ framed more
framed-append [] more = refl
framed-append (message ∷ messages) more =
    ap (λ l. frame message ++ l) (framed-append messages more)
    ∙ sym (append_assoc (frame message) (framed messages) (framed more))

-- the frames of one message more
pub framed-push : (messages : List (List ℕ)) (message : List ℕ)
    → framed (messages ++ message ∷ []) ≡ framed messages ++ frame message
framed-push messages message =
    framed-append messages (message ∷ []) ∙ ap (λ l. framed messages ++ l)
    (append-nil (frame message))
