use Rattle.std.proofs.Common.{◌≡◌, ◌∙◌, ◌+◌, ◌<◌, ◌++◌, ℕ, List, [], ◌∷◌, ap, append_assoc}
use Rattle.std.proofs.Common.{drop, get_or, length, rules, sym}
use Rattle.std.proofs.lemmas.List.{drop_more}
use Rattle.acq_status.specs.Replies.{bounds, bucket, buckets}
use Rattle.acq_status.proofs.reply_texts.put_buckets.Goals as goal

-- one bucket more was put
one_more : (bs : List (List ℕ)) (rs : List ℕ) (place : ℕ) (all before after : List ℕ) →
    place < length bs → place < length rs →
    after ≡ before ++ bucket (get_or bs place []) (get_or rs place 0) →
    before ++ buckets (drop place bs) (drop place rs) ≡ all →
    after ++ buckets (drop (place + 1) bs) (drop (place + 1) rs) ≡ all
one_more bs rs place all before after in_bounds in_replies grown so =
    let bound = get_or bs place [] in
    let replies = get_or rs place 0 in
    let left = buckets (drop (place + 1) bs) (drop (place + 1) rs) in
    ap (λ (l : List ℕ). l ++ left) grown
    ∙ append_assoc before (bucket bound replies) left
    ∙ ap (λ (l : List (List ℕ)). before ++ buckets l (replies ∷ drop (place + 1) rs))
    (sym (drop_more bs place [] in_bounds))
    ∙ ap (λ (l : List ℕ). before ++ buckets (drop place bs) l)
    (sym (drop_more rs place 0 in_replies))
    ∙ so

pub loop-place-preserved : goal.loop-place-preserved
loop-place-preserved c =
    let place = c.loop-place.place in
    let within = c.args.durations.now.within in
    let in_bounds : place < length bounds = search rules in
    let in_replies : place < length within = search rules in
    let grown : c.put_bucket.new.text.items
    ≡ c.loop-place.text.items ++ bucket (get_or bounds place []) (get_or within place 0) =
    search rules in
    one_more bounds within place (c.args.text.now.items ++ buckets bounds within)
    c.loop-place.text.items c.put_bucket.new.text.items in_bounds in_replies grown
    c.loop-place.invariant
