-- `append` joins what is owned, and runs no code for it. Assumes `Logic`.
use Rattle.std.proofs.Common.{◌≡◌, List, [], ◌∷◌, ◌++◌, refl}
use mir.Syntax.{Fn, Args, a_type}
use mir.MapTy.{inst_fn}
use mir.Val.{Val, vptr, vunit}
use base.Logic.{SProp, emp}
use base.Fml.{ftrue, flft}
use prog.Wp.{WpFn}
use contract.Monad.{fact, fact_i}
use contract.Running.{tables}
use types.Kit.{‵, raw, ◌⊛◌, prop, ◌$◌, ◌∵◌, !, qed, by, move, keep, drop, use0, use2, regoal, split, join, fsplit, fsplit3, fjoin, fjoin3, feq_i, feq_l}
use types.Run.{of_opd, unit_lit, returns, enter}
use types.ByLocal.{alloc_all, pass_all, free_all, look_at, sets}
use denote.Exit.{no}
use denote.RattleType.{owns}
use denote.Signature.{types_at, plain}
use denote.Param.{layouts}
use denote.Steps.{nothing}
use denote.Triple.Walked.{Stays, stay_ref, stay_dropped, walk_of, Goes-ref}
use Rattle.std.proofs.raw_atomic.Walks.{proved_at, leaves}
use denote.Param.Laws.{param_laws}
use Rattle.core.proofs.alloc.Calls.{Goes-blank}
use Rattle.sy_chain.proofs.blocks.Blocks.TheLaws.{the_row_laws}
use Rattle.sy_chain.proofs.Steps.{D, Sr, R, Held, own_in, reports, lends, gives_back}
use Rattle.sy_chain.specs.contracts.blocks.Blocks.append.{ended, clauses}
use Rattle.sy_chain.specs.contracts.blocks.Blocks.append.Key.{name as #self}
use Rattle.sy_chain.proofs.blocks.Blocks.append.Statement.{statement}
use Rattle.sy_chain.proofs.blocks.Blocks.append.Code as code

pub append_spec : {M : Type 1} → statement M
append_spec 𝓤 𝓛 𝓜 𝓡 wired Y L =
    let H = 𝓛.H in let 𝓣 = tables 𝓤 H 𝓜 𝓡 𝓡.env in let En = ended Y in let c = clauses Y 𝓛 𝓜.mem 𝓡.returns in let types : Args = layouts (a_type ∷ []) (Y, tt) in let fn : Fn = inst_fn types code.function in
    let hs : Stays En.signature.params En.kept = (stay_ref (0 ∷ []) tt (plain (λ _. Sr Y)), (stay_dropped (plain (λ _. Sr Y)) no, tt)) in
    proved_at 𝓛 En hs c 𝓜 𝓡 (Goes-ref 𝓛 2 0 tt (plain (λ _. Sr Y)), (Goes-blank 𝓛 2 (plain (λ _. Sr Y)) no (λ κs x f. tt), tt)) (#self types) fn (code.unfolded 𝓤 H 𝓜 𝓡 wired (Y, tt)) (λ z are.
    let κs = z.0.0 in let qs = z.0.1 in let self = z.0.3.0 in let d = self.now in let rb = self.ref_ptr.0 in let ro = self.ref_ptr.1 in let vss = z.0.4 in
    let Post : Val → SProp 𝓤 = (walk_of 𝓛 En hs c).post z in let Run : List Val → SProp 𝓤 = λ us. WpFn 𝓤 H 𝓣.C 𝓣.Λ fn us Post in
    let toks = ‵ (flft κs.0 qs.0) ⊛ ‵ (flft κs.1.0 qs.1.0) ⊛ ‵ ftrue in
    let x : D Y = z.0.3.1.0 in let new : D Y = record d { placed = d.placed ++ x.placed } in
    qed 𝓛 ((toks ⊛ ‵ (owns (types_at En.signature.params κs) z.0.3 vss)) ∷ raw ((c κs z.0.3).requires z.1) ∷ []) ∵ split ! $ move ! (1 ∷ []) $ fsplit3 ! $ fsplit3 ! $ feq_l ! (λ e₀. keep ! (0 ∷ 1 ∷ 2 ∷ 4 ∷ []) $
    move ! (2 ∷ []) $ reports (Sr Y) (the_row_laws (R Y) (param_laws 0 Y L)) ! x vss.1.0 (λ w e₁ good. fsplit ! $ drop ! $ move ! (3 ∷ []) $ split ! $ move ! (3 ∷ 4 ∷ 0 ∷ 2 ∷ []) $
    regoal ! (λ (us : List Val). prop (Run (us ++ (vss.1.0 ++ [])))) e₀ refl $ regoal ! (λ (us : List Val). prop (Run (vptr rb ro ∷ (us ++ [])))) e₁ refl $
    enter ! 𝓣.C 𝓣.Λ fn (vptr rb ro ∷ w ∷ []) Post $ alloc_all ! (λ l. pass_all ! refl ((tt, tt), (good, tt)) $
    lends Y ! tt d rb ro (λ vs. move ! (1 ∷ 6 ∷ []) $ use2 𝓛 (‵ (Held Y new.placed)) (own_in Y 𝓛 d.placed x.placed) $
    sets ! (of_opd ! (unit_lit !)) refl (tt, tt) $
    move ! (1 ∷ 0 ∷ []) $ gives_back Y ! tt new vs rb ro $ returns ! (look_at ! 0 refl) $ free_all ! refl $ move ! (2 ∷ 3 ∷ []) $ join ! $ move ! (1 ∷ 2 ∷ []) $
    feq_i ! (List Val) vss.0 (vptr rb ro ∷ []) e₀ $ fjoin3 ! $ nothing ! $ nothing ! $ fjoin ! $ move ! (1 ∷ 0 ∷ []) $ fjoin ! $ feq_i ! (List Val) (vunit ∷ []) (vunit ∷ []) refl $
    use0 𝓛 (raw (fact 𝓤 (new.placed ≡ d.placed ++ x.placed))) (fact_i 𝓤 _ (emp 𝓤) refl) $
    move ! (3 ∷ 2 ∷ 1 ∷ 0 ∷ []) $ by ! (leaves 𝓛 En hs c z vunit tt (new, (tt, tt)) (tt, (tt, tt))))))))
