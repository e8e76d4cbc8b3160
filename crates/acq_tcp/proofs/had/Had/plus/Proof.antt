-- `plus` makes the empty struct, and picks the number that its clause names. Assumes `Logic`.
use Rattle.std.proofs.Common.{◌+◌, List, [], ◌∷◌, ◌++◌, refl}
use Rattle.std.proofs.raw_atomic.Walks.{proved_at}
use mir.Val.{Val, vptr}
use contract.Running.{tables}
use prog.Wp.{WpFn}
use types.Kit.{‵, raw, ◌⊛◌, prop, ◌$◌, ◌∵◌, !, qed, move, keep, drop, split, fsplit, fjoin, feq_l}
use types.Kit.{regoal, suffices, done}
use types.Part.{agg}
use types.Run.{enter, returns, no_more}
use types.ByLocal.{alloc_all, pass_all, free_all, look_at, sets}
use denote.Builtin.{RefOf}
use denote.Exit.{yes}
use denote.RattleType.{owns}
use denote.Signature.{plain, types_at}
use denote.Steps.{nothing}
use denote.Triple.Entry.{alive}
use denote.Triple.Walked.{says, Stays, stay_dropped, walk_of, ends_at, Goes-dropped}
use Rattle.acq_link.proofs.EmptyStruct.{empty_value, owns_empty}
use Rattle.acq_tcp.specs.contracts.had.Given as Given
use Rattle.acq_tcp.specs.contracts.had.Had as Had
use Rattle.acq_tcp.specs.contracts.had.Had.plus as f
use Rattle.acq_tcp.proofs.had.Had.plus.Statement.{statement}
use Rattle.acq_tcp.proofs.had.Had.plus.Code as code

abbrev stayed : Stays f.ended.signature.params f.ended.kept
stayed = (stay_dropped _ yes, (stay_dropped _ yes, tt))

pub plus_spec : {M : Type 1} → statement M
plus_spec 𝓤 𝓛 𝓜 𝓡 wired =
    let c = f.clauses 𝓛 𝓜.mem 𝓡.returns in let W = walk_of 𝓛 f.ended stayed c in let 𝓣 =
    tables 𝓤 𝓛.H 𝓜 𝓡 𝓡.env in
    proved_at 𝓛 f.ended stayed c 𝓜 𝓡 (
      Goes-dropped 𝓛 2 (RefOf (0 ∷ []) tt (plain (λ _. Had.the_row)) (λ _. tt)) yes
          (λ κs x w. refl),
      (
        Goes-dropped 𝓛 2 (RefOf (1 ∷ []) tt (plain (λ _. Given.the_row)) (λ _. tt)) yes (λ κs x w. refl),
        tt,
      ),
    ) f.Key.name code.function (code.unfolded 𝓤 𝓛.H 𝓜 𝓡 wired) (λ z are.
    let a = z.0.3 in
    let vss = z.0.4 in
    let self = vptr a.0.ref_ptr.0 a.0.ref_ptr.1 in
    let call = vptr a.1.0.ref_ptr.0 a.1.0.ref_ptr.1 in
    let made : Had.the_row.Denot =
    record { count = a.0.now.count + a.1.0.now.number } in
    qed 𝓛 ((raw (alive 𝓛 f.signature z.0.0 z.0.1) ⊛ ‵
    (owns (types_at f.signature.params z.0.0) a vss)) ∷ raw
    ((c z.0.0 a).requires z.1) ∷ []) ∵
    keep ! (0 ∷ []) $ split ! $ move ! (1 ∷ []) $ fsplit ! $ fsplit ! $ feq_l ! (λ is_self.
    drop ! $ fsplit ! $ fsplit ! $ feq_l ! (λ is_call. drop ! $ drop ! $
    regoal ! (λ (us : List Val). prop (WpFn 𝓤 𝓛.H 𝓣.C 𝓣.Λ code.function (us ++ (vss.1.0
    ++ [])) (W.post z))) is_self refl $
    regoal ! (λ (us : List Val). prop (WpFn 𝓤 𝓛.H 𝓣.C 𝓣.Λ code.function ((self ∷ []) ++ (us
    ++ [])) (W.post z))) is_call refl $
    enter ! _ _ _ (self ∷ call ∷ []) _
    $ alloc_all ! (λ l. pass_all ! refl ((tt, tt), ((tt, tt), tt)) $
    sets ! (agg ! (no_more !)) refl (tt, tt) $
    nothing ! $ owns_empty ! $ fjoin ! $
    returns ! (look_at ! 0 refl) $ free_all ! refl $
    suffices ! _ (ends_at 𝓛 f.ended stayed c z empty_value made (tt, (tt, tt)) (tt, (tt, tt)))
    $ says !
    (record { count = refl }) $
    nothing ! $ nothing ! $ fjoin ! $ nothing ! $ fjoin ! $ move ! (2 ∷ 0 ∷ 1 ∷ []) $ done !))))
