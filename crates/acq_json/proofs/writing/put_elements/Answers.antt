use Rattle.std.proofs.Common.{◌≡◌, ℕ, refl, ap, subst, ◌∙◌, arith}
use Rattle.std.proofs.lemmas.Result.{on_ok_weaker}
use Rattle.json.specs.Tree.{members_tokens}
use Rattle.acq_json.specs.Written.{Behind, elements_json}
use Rattle.acq_json.proofs.MembersInTurn.{members_begin, members_below, members_end, members_more}
use Rattle.acq_json.proofs.MembersInTurn.{members_same}
use Rattle.acq_json.proofs.PutInTurn.{and_then, wrote}
use Rattle.acq_json.proofs.writing.put_elements.Goals as goal
use Rattle.acq_json.proofs.writing.put_elements.Goals.{in-Some+in_ok-put_element, in_default}

pub loop-number-init : goal.loop-number-init
loop-number-init c = record {
  before = refl;
  tokens_put =
      members_begin c.args.form c.args.message.now c.begin_object.new.self.tokens c.requires;
}

pub loop-number-preserved : goal.loop-number-preserved
loop-number-preserved c =
    let m = c.args.message.now in
    let n = c.loop-number.number in
    let old = c.loop-number.writer in
    let so = c.loop-number.invariant in
    let front = c.begin_object.new.self.tokens in
    elim c.match-get.branch [
      | in-Some+in_ok-put_element w ↦ record {
        before = ap (λ x. x.before) w.writer-is ∙ w.in_ok-put_element.ensures.before ∙ so.before;
        tokens_put =
            members_more c.args.form m n old.tokens c.match-get.writer.tokens front
            w.in-Some.content.now c.requires w.in-Some.ensures.value so.tokens_put
            (ap (λ x. x.tokens) w.writer-is ∙ w.in_ok-put_element.ensures.tokens_put);
      }
      | in_default w ↦ record {
        before = ap (λ x. x.before) w.writer-is ∙ so.before;
        tokens_put =
            ap (λ x. x.tokens) w.writer-is
            ∙ members_same c.args.form m n old.tokens front c.requires w.in_default.ensures.value
            so.tokens_put;
      }
    ]

pub returns : goal.returns
returns c =
    let m = c.args.message.now in
    let form = c.args.form in
    let first = c.begin_object.new.self in
    let all : c.loop-number.number ≡ 129 = omega arith in
    let so : Behind first c.loop-number.writer (members_below form 129 m.elements) =
    subst (λ (n : ℕ). Behind first c.loop-number.writer (members_below form n m.elements)) all
    c.loop-number.invariant in
    on_ok_weaker c.end_object.result
    (λ now.
    let closed :
    Behind first c.end_object.new.self (members_tokens (elements_json form m.elements)) = record {
      before = c.end_object.ensures.room.0 ∙ so.before;
      tokens_put =
          members_end form m c.loop-number.writer.tokens c.end_object.new.self.tokens first.tokens
          c.requires so.tokens_put now;
    } in and_then (wrote c.in_ok-begin_object.ensures) closed)
    c.end_object.ensures.ok
