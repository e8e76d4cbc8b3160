use Rattle.std.proofs.Common.{◌≡◌, ◌++◌, ℕ, Bool, List, [], length, refl}
use Rattle.std.specs.Prelude.{if◌then◌else◌}
use Rattle.acq_page.specs.Replies.{head_of}
use Rattle.acq_page.specs.declared.content_kind.ContentKind.{ContentKind}
use Rattle.acq_page.specs.declared.status.Status.{Status}
use Rattle.acq_page.proofs.replying.reply_to.Goals as goal

-- a head and a body, put one behind the other
joined : (head : Status → ContentKind → ℕ → List ℕ) (s t : Status) (k l : ContentKind) (n : ℕ)
    (empty headed replied front body : List ℕ) (with_body : Bool) →
    empty ≡ [] → headed ≡ empty ++ head s k n →
    replied ≡ headed ++ (if with_body then front else []) →
    s ≡ t → k ≡ l → n ≡ length front → front ≡ body →
    replied ≡ head t l (length body) ++ (if with_body then body else [])
joined head s t k l n empty headed replied front body with_body e1 e2 e3 e4 e5 e6 e7 =
    rw (e3, e2, e1, e4, e5, e6, e7) refl

pub returns : goal.returns
returns c =
    let content = c.in_ok-content.content in (
      content.body.items,
      c.in_ok-content.ensures.body,
      joined (λ s k n. head_of s k n c.args.date) content.status _ content.kind _ _ _ _ _ _ _
          c.args.request.with_body c.new-reply.ensures.items c.in_ok-put_head.ensures
          c.in_ok-put_body.ensures c.in_ok-content.ensures.status c.in_ok-content.ensures.kind
          refl c.as_slice-body.ensures.value,
    )
