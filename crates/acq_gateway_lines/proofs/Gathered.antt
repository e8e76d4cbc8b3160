-- What is gathered of a walk, and its lines.
use Rattle.std.proofs.Common.{◌≡◌, ◌∙◌, ◌+◌, ◌-◌, ◌≤◌, ◌++◌, ◌∷◌, ℕ, suc, true, false}
use Rattle.std.proofs.Common.{List, [], Option, Some, None, drop, inl, inr, flat_map, length, take, max}
use Rattle.std.proofs.Common.{refl, sym, ap, subst, true≢false, append-nil, append_assoc, arith}
use Rattle.std.specs.Prelude.{◌&&◌, nat_lt, not}
use Rattle.std.proofs.lemmas.Bool.{and_parts}
use Rattle.std.proofs.lemmas.Bool.Decides.{nat_tests}
use Rattle.std.proofs.lemmas.List.Concat.{flat_map-append}
use Rattle.acq_core.specs.declared.request.Request.{Request}
use Rattle.acq_core.specs.Tables.{Tables}
use Rattle.acq_book.specs.Visits.{SawAll}
use Rattle.acq_gateway_lines.specs.declared.notice.Notice.{Notice}
use Rattle.acq_gateway_lines.specs.declared.slice.GatewaySlice.{GatewaySlice}
use Rattle.acq_gateway_lines.specs.declared.slice.Gathering.{Gathering}
use Rattle.acq_gateway_lines.specs.declared.told_row.ToldRow.{ToldRow}
use Rattle.acq_gateway_lines.specs.declared.waiting_message.WaitingMessage.{WaitingMessage}
use Rattle.acq_gateway_lines.specs.Lines.{line_if, row_line}
use Rattle.acq_gateway_lines.specs.Notices.{notice_of}
use Rattle.acq_gateway_lines.specs.Slices.{Gathers, IsSliceOf, lines_of, told_if, told_line}
use Rattle.acq_gateway_lines.specs.Slices.{told_of, wants_more}

-- the rows among these of which something is told
pub told_among : ℕ → List Request → List ToldRow
told_among behind [] = []
told_among behind (row ∷ rows) = told_of (behind + 1) row ++ told_among (behind + 1) rows

-- so many of these rows were gone over
pub record HasGathered (rows : List Request) (start end : Gathering) : Type 0 where
  pub count : ℕ
  pub here : count ≤ length rows
  pub bounded : count ≤ max 1 start.left
  pub moved : end.rows ≡ start.rows + count
  pub told : end.told.items ≡ start.told.items ++ told_among start.rows (take count rows)
  pub moves : (count ≡ 0) → rows ≡ []

left_over : (g : Gathering) → wants_more g ≡ true → 1 ≤ g.left
left_over g more =
    let has_left = nat_lt 0 g.left in
    let has_told = nat_lt (length g.told.items) 64 in
    let parts = and_parts (not g.is_short) (has_left && has_told) more in
    let some = (and_parts has_left has_told parts.1).0 in
    grind (arith, nat_tests, some)

one_more : (row : Request) (rows : List Request) (start mid end : Gathering) →
    mid.rows ≡ start.rows + 1 → mid.told.items ≡ start.told.items ++ told_of (start.rows + 1) row →
    mid.left ≡ start.left - 1 → 1 ≤ mid.left → HasGathered rows mid end →
    HasGathered (row ∷ rows) start end
unfolding told_among
one_more row rows start mid end is told left some rest = record {
  count = suc rest.count;
  here = let h = rest.here in omega arith;
  bounded = let b = rest.bounded in omega arith;
  moved = let m = rest.moved in omega arith;
  told = rest.told
      ∙ ap (λ l. l ++ told_among mid.rows (take rest.count rows)) told
      ∙ append_assoc start.told.items (told_of (start.rows + 1) row)
      (told_among mid.rows (take rest.count rows))
      ∙ ap (λ n. start.told.items ++ (told_of (start.rows + 1) row
      ++ told_among n (take rest.count rows))) is;
  moves = λ none. absurd (omega (arith, none));
}

last_one : (row : Request) (rows : List Request) (start end : Gathering) →
    end.rows ≡ start.rows + 1 → end.told.items ≡ start.told.items ++ told_of (start.rows + 1) row →
    HasGathered (row ∷ rows) start end
unfolding told_among
last_one row rows start end is told = record {
  count = 1;
  here = omega arith;
  bounded = omega arith;
  moved = is;
  told = told
      ∙ ap (λ l. start.told.items ++ l) (sym (append-nil (told_of (start.rows + 1) row)));
  moves = λ none. absurd (omega (arith, none));
}

-- what a walk over these rows gathers
pub has_gathered : (rows : List Request) (start end : Gathering) →
    SawAll Gathers rows start end → end.is_short ≡ false → HasGathered rows start end
unfolding told_among
has_gathered [] start end saw whole = record {
  count = 0;
  here = omega arith;
  bounded = omega arith;
  moved = let same = ap (λ (g : Gathering). g.rows) saw in omega (arith, same);
  told = ap (λ (g : Gathering). g.told.items) (sym saw) ∙ sym (append-nil start.told.items);
  moves = λ none. refl;
}
has_gathered (row ∷ rows) start end (inl (mid, inl one, rest)) whole =
    one_more row rows start mid end one.0 one.1 one.2
    (left_over mid (sym one.4)) (has_gathered rows mid end rest whole)
has_gathered (row ∷ rows) start end (inl (mid, inr short, rest)) whole =
    absurd (true≢false short.1)
has_gathered (row ∷ rows) start end (inr (inl one)) whole = last_one row rows start end one.0 one.1
has_gathered (row ∷ rows) start end (inr (inr short)) whole =
    absurd (true≢false (sym short.0 ∙ whole))

-- ---- its lines

module _ (t : Tables) (moment : ℕ) (messages : List WaitingMessage) where
  line_told : (number : ℕ) (row : Request) (what : Option Notice) →
      flat_map (told_line t moment messages) (told_if number row what)
      ≡ line_if t moment messages number row what
  line_told number row None = refl
  line_told number row (Some what) = append-nil _

  -- the lines of the rows of which something is told are the lines of all
  pub lines_told : (behind : ℕ) (rows : List Request) →
      flat_map (told_line t moment messages) (told_among behind rows)
      ≡ lines_of t moment messages behind rows
  unfolding told_among
  lines_told behind [] = refl
  lines_told behind (row ∷ rows) =
      flat_map-append (told_line t moment messages) (told_of (behind + 1) row)
      (told_among (behind + 1) rows)
      ∙ ap (λ l. l ++ flat_map (told_line t moment messages) (told_among (behind + 1) rows))
      (line_told (behind + 1) row (notice_of row))
      ∙ ap (λ l. row_line t moment messages (behind + 1) row ++ l)
      (lines_told (behind + 1) rows)

-- what was gathered, with its lines, is a slice
pub slice_is : (t u : Tables) (moment : ℕ) (messages : List WaitingMessage) (rows most : ℕ)
    (start end : Gathering) (slice : GatewaySlice) → u ≡ t → start.rows ≡ rows →
    start.left ≡ most → start.told.items ≡ [] → HasGathered (drop rows t.requests) start end →
    slice.rows ≡ end.rows →
    slice.text.items ≡ flat_map (told_line u moment messages) end.told.items →
    IsSliceOf t moment messages rows most slice
slice_is t u moment messages rows most start end slice same begun left none got moved text = record {
  count = got.count;
  here = got.here;
  bounded = subst (λ n. got.count ≤ max 1 n) left got.bounded;
  rows = moved ∙ got.moved ∙ ap (λ n. n + got.count) begun;
  text = text
      ∙ ap (flat_map (told_line u moment messages)) (got.told ∙ ap (λ l. l ++ those) none)
      ∙ lines_told u moment messages start.rows passed
      ∙ ap (λ v. lines_of v moment messages start.rows passed) same
      ∙ ap (λ n. lines_of t moment messages n passed) begun;
  moves = got.moves;
}
  where
    passed : List Request
    passed = take got.count (drop rows t.requests)

    those : List ToldRow
    those = told_among start.rows passed
