-- Connections served one after the other, and one more.
use Rattle.std.proofs.Common.{◌≡◌, ℕ, List, [], ◌∷◌, ◌++◌, refl, subst, ap, ◌∙◌, sym, inr}
use Rattle.std.proofs.lemmas.List.Elements.{All-weaker}
use Rattle.acq_message.specs.declared.verdict.Verdict.{Verdict}
use Rattle.acq_core.specs.declared.query.Query.{Query}
use Rattle.acq_core.specs.Tables.{Tables}
use Rattle.acq_serving.proofs.ServedWeaker.{SaysLess, serves_weaker}
use Rattle.acq_front.specs.Stops.{Left, open_at}
use Rattle.acq_front.specs.Talk.{Saying}
use Rattle.acq_commands.specs.Listening.{Served, ServesOne, ServesEach, Traffic, traffic_after}
use Rattle.acq_commands.specs.Listening.{with_served}

pub one_more : (may_give : ℕ → Type 0) (may_say : Saying) (old mid new : Tables) (all : List Served)
    (s : Served) →
    ServesEach may_give may_say old mid all → ServesOne may_give may_say mid (open_at new) s →
    ServesEach may_give may_say old new (all ++ s ∷ [])
one_more may_give may_say old mid new [] s same one =
    (new, subst (λ (t : Tables). ServesOne may_give may_say t (open_at new) s) same one, refl)
one_more may_give may_say old mid new (first ∷ later) s so one =
    (so.0, so.1, one_more may_give may_say so.0 mid new later s so.2 one)

-- one connection, where clock and issuer might have given more, and less is known of what is left
pub weaker_one : (later may_give : ℕ → Type 0) → ((m : ℕ) → later m → may_give m) →
    (said may_say : Saying) → ((q : Query) (v : Verdict) → said q v → may_say q v) →
    (left less : Left) → SaysLess left less → (old : Tables) (s : Served) →
    ServesOne later said old left s → ServesOne may_give may_say old less s
weaker_one later may_give f said may_say g left less h old s one = (
  All-weaker later may_give f s.connection.moments one.0,
  serves_weaker said may_say g left less h old s.connection s.ended one.1,
)

-- of a book that is open just this is known
pub says_open : (left : Left) → left.is_open → SaysLess left (open_at left.tables)
says_open left o = record {
  is_open = λ u. o;
  same = refl;
  may_leave = λ t is. inr (o, is);
  leaves_books = λ b. tt;
}

traffic-more : (t : Traffic) (all : List Served) (s : Served) →
    traffic_after t (all ++ s ∷ []) ≡ with_served (traffic_after t all) s
traffic-more t [] s = refl
traffic-more t (first ∷ later) s = traffic-more (with_served t first) later s

-- what passed over one more
pub passes_more : (old mid new : Traffic) (all : List Served) (s : Served) →
    mid ≡ traffic_after old all → new ≡ with_served mid s →
    new ≡ traffic_after old (all ++ s ∷ [])
passes_more old mid new all s so is =
    is ∙ ap (λ (t : Traffic). with_served t s) so ∙ sym (traffic-more old all s)
