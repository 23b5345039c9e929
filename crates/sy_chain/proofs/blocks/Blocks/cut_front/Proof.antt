-- `cut_front` parts what is owned, and runs no code for it. Assumes `Logic`.
use Rattle.std.proofs.Common.{◌≡◌, ℕ, List, [], ◌∷◌, ◌++◌, refl, sym}
use mir.Syntax.{Fn, Args, a_type, w64}
use mir.MapTy.{inst_fn}
use mir.Val.{Val, vptr, vint}
use base.Logic.{SProp, emp}
use base.Fml.{ftrue, flft}
use prog.Wp.{WpFn}
use contract.Monad.{fact, fact_i}
use contract.Running.{tables}
use types.Kit.{‵, raw, ◌⊛◌, prop, ◌$◌, ◌∵◌, !, qed, by, move, keep, use0, use1, regoal, rewrite, split, join, fsplit3, fjoin, fjoin3, feq_i, feq_l}
use types.Part.{agg}
use Rattle.std.proofs.Common.{take, take-append-drop, drop as drop_first}
use types.Run.{and_then, no_more, returns, enter}
use types.ByLocal.{alloc_all, pass_all, free_all, look_at, get, sets}
use denote.Exit.{yes}
use denote.RattleType.{owns}
use denote.Signature.{types_at, plain}
use denote.Builtin.{usize}
use denote.Param.{layouts}
use denote.Steps.{nothing}
use denote.Triple.Walked.{Stays, stay_ref, stay_dropped, walk_of, Goes-ref, Goes-dropped}
use Rattle.std.proofs.raw_atomic.Walks.{proved_at, leaves}
use Rattle.sy_chain.specs.internal.Linked.{Placed}
use Rattle.sy_chain.proofs.Steps.{D, Sr, Held, own_out, lends, gives_back, made, none, only_field}
use Rattle.sy_chain.specs.contracts.blocks.Blocks.cut_front.{ended, clauses}
use Rattle.sy_chain.specs.contracts.blocks.Blocks.cut_front.Key.{name as #self}
use Rattle.sy_chain.proofs.blocks.Blocks.cut_front.Statement.{statement}
use Rattle.sy_chain.proofs.blocks.Blocks.cut_front.Code as code

pub cut_front_spec : {M : Type 1} → statement M
cut_front_spec 𝓤 𝓛 𝓜 𝓡 wired Y L =
    let H = 𝓛.H in let 𝓣 = tables 𝓤 H 𝓜 𝓡 𝓡.env in let En = ended Y in let c = clauses Y 𝓛 𝓜.mem 𝓡.returns in let types : Args = layouts (a_type ∷ []) (Y, tt) in let fn : Fn = inst_fn types code.function in
    let hs : Stays En.signature.params En.kept = (stay_ref (0 ∷ []) tt (plain (λ _. Sr Y)), (stay_dropped (plain (λ _. usize)) yes, tt)) in
    proved_at 𝓛 En hs c 𝓜 𝓡 (Goes-ref 𝓛 2 0 tt (plain (λ _. Sr Y)), (Goes-dropped 𝓛 2 (plain (λ _. usize)) yes (λ κs x f. refl), tt)) (#self types) fn (code.unfolded 𝓤 H 𝓜 𝓡 wired (Y, tt)) (λ z are.
    let κs = z.0.0 in let qs = z.0.1 in let self = z.0.3.0 in let d = self.now in let rb = self.ref_ptr.0 in let ro = self.ref_ptr.1 in let vss = z.0.4 in
    let Post : Val → SProp 𝓤 = (walk_of 𝓛 En hs c).post z in let Run : List Val → SProp 𝓤 = λ us. WpFn 𝓤 H 𝓣.C 𝓣.Λ fn us Post in
    let toks = ‵ (flft κs.0 qs.0) ⊛ ‵ (flft κs.1.0 qs.1.0) ⊛ ‵ ftrue in
    let n : ℕ = z.0.3.1.0 in
    let front : D Y = record { values = record {}; placed = take n d.placed } in let rest : D Y = record d { placed = drop_first n d.placed } in
    qed 𝓛 ((toks ⊛ ‵ (owns (types_at En.signature.params κs) z.0.3 vss)) ∷ raw ((c κs z.0.3).requires z.1) ∷ []) ∵ split ! $ move ! (1 ∷ []) $ fsplit3 ! $ fsplit3 ! $ feq_l ! (λ e₀. keep ! (0 ∷ 1 ∷ 4 ∷ []) $
    move ! (2 ∷ []) $ split ! $ move ! (2 ∷ 3 ∷ []) $
    regoal ! (λ (us : List Val). prop (Run (us ++ (vss.1.0 ++ [])))) e₀ refl $ regoal ! (λ (us : List Val). prop (Run (vptr rb ro ∷ (us ++ [])))) are.1.0.0 refl $
    enter ! 𝓣.C 𝓣.Λ fn (vptr rb ro ∷ vint w64 n ∷ []) Post $ alloc_all ! (λ l. pass_all ! refl ((tt, tt), ((tt, record { fits = are.1.0.1 }), tt)) $
    lends Y ! tt d rb ro (λ vs. move ! (1 ∷ []) $ rewrite ! 0 (λ (bs : List (Placed Y.Denot)). ‵ (Held Y bs)) (sym (take-append-drop n d.placed)) refl $
    use1 𝓛 (‵ (Held Y front.placed) ⊛ ‵ (Held Y rest.placed)) (own_out Y 𝓛 front.placed rest.placed) $ split ! $
    sets ! (agg ! (no_more !)) refl (tt, tt) $ sets ! (agg ! (and_then ! (get ! refl) (no_more !))) refl (tt, (tt, tt)) $ made Y ! front.placed $
    move ! (2 ∷ 1 ∷ 3 ∷ 4 ∷ 5 ∷ 6 ∷ []) $ gives_back Y ! tt rest vs rb ro $ returns ! (look_at ! 0 refl) $ free_all ! refl $ move ! (2 ∷ 4 ∷ []) $ join ! $ move ! (1 ∷ 2 ∷ []) $
    feq_i ! (List Val) vss.0 (vptr rb ro ∷ []) e₀ $ fjoin3 ! $ nothing ! $ nothing ! $ fjoin ! $ move ! (1 ∷ 0 ∷ []) $ fjoin ! $
    use0 𝓛 (raw (fact 𝓤 (front.placed ≡ take n d.placed))) (fact_i 𝓤 _ (emp 𝓤) refl) $ use0 𝓛 (raw (fact 𝓤 (rest.placed ≡ drop_first n d.placed))) (fact_i 𝓤 _ (emp 𝓤) refl) $ move ! (1 ∷ 0 ∷ []) $ join ! $
    move ! (2 ∷ 1 ∷ 3 ∷ 0 ∷ []) $ by ! (leaves 𝓛 En hs c z (only_field none) front (rest, (tt, tt)) (tt, (tt, tt)))))))
