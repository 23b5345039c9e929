-- `next` reads a block's pointer. Assumes `Logic`.
use Rattle.std.proofs.Common.{◌≡◌, ℕ, List, [], ◌∷◌, ◌++◌, refl, sym, ap, ◌∙◌}
use base.Fraction.{full_share}
use Prim.Native.Nat.{zero, ◌<◌}
use lib.ListN.{length}
use mir.Syntax.{Fn, Args, a_type, w64, ty_ptr}
use mir.MapTy.{inst_fn}
use mir.Val.{Val, vptr, vint}
use base.Logic.{SProp, emp, id⊢}
use base.Fml.{ftrue, fat, flft}
use prog.Wp.{WpFn}
use contract.Monad.{fact, fact_i}
use contract.BorrowLft.{◌⊑◌}
use contract.Running.{tables}
use types.Kit.{‵, raw, ◌⊛◌, prop, at_ret, ◌$◌, ◌∵◌, !, qed, by, move, keep, drop, use0, use1, use2, regoal, rewrite, split, join, fsplit, fsplit3, fjoin, fjoin3, feq_i, feq_l}
use types.Part.{whole, sub, look_in}
use types.Run.{stop, fld, load, of_opd, first, blocks, exec, returns, enter}
use types.ByLocal.{alloc_all, pass_all, free_all, look_at, get, through, sets, sets_last, env}
use denote.Exit.{yes}
use denote.RattleType.{owns}
use denote.Signature.{types_at, plain}
use denote.Builtin.{usize}
use denote.RawPtr.{Ptr, RawPtr, ptr_val}
use denote.Param.{layouts}
use denote.Steps.{nothing, heard}
use denote.Triple.Walked.{Stays, stay_ref, stay_dropped, walk_of, Goes-ref, Goes-dropped}
use Rattle.std.proofs.raw_atomic.Walks.{proved_at, leaves}
use Rattle.std_alloc.proofs.VecSteps.Shapes.{after}
use Rattle.std_alloc.proofs.RcSteps.{Ptr-Good}
use Rattle.sy_chain.specs.internal.Linked.{Placed, place_of, next_of}
use Rattle.sy_chain.proofs.Leading.{parts_at, place_there, next_there}
use Rattle.sy_chain.proofs.Steps.{Sr, Held, One, own_out, own_in, one_opens, box_closes, lends, gives_back}
use Rattle.sy_chain.specs.contracts.blocks.Blocks.next.{ended, clauses}
use Rattle.sy_chain.specs.contracts.blocks.Blocks.next.Key.{name as #self}
use Rattle.sy_chain.proofs.blocks.Blocks.next.Statement.{statement}
use Rattle.sy_chain.proofs.blocks.Blocks.next.Code as code

pub next_spec : {M : Type 1} → statement M
next_spec 𝓤 𝓛 𝓜 𝓡 wired Y L =
    let H = 𝓛.H in let 𝓣 = tables 𝓤 H 𝓜 𝓡 𝓡.env in let En = ended Y in let c = clauses Y 𝓛 𝓜.mem 𝓡.returns in let types : Args = layouts (a_type ∷ []) (Y, tt) in let fn : Fn = inst_fn types code.function in
    let hs : Stays En.signature.params En.kept = (stay_ref (0 ∷ []) tt (plain (λ _. Sr Y)), (stay_dropped (plain (λ _. RawPtr)) yes, (stay_dropped (plain (λ _. usize)) yes, tt))) in
    proved_at 𝓛 En hs c 𝓜 𝓡 (Goes-ref 𝓛 2 0 tt (plain (λ _. Sr Y)), (Goes-dropped 𝓛 2 (plain (λ _. RawPtr)) yes (λ κs x f. refl), (Goes-dropped 𝓛 2 (plain (λ _. usize)) yes (λ κs x f. refl), tt))) (#self types) fn (code.unfolded 𝓤 H 𝓜 𝓡 wired (Y, tt)) (λ z are.
    let κs = z.0.0 in let qs = z.0.1 in let self = z.0.3.0 in let d = self.now in let rb = self.ref_ptr.0 in let ro = self.ref_ptr.1 in let p : Ptr = z.0.3.1.0 in let i : ℕ = z.0.3.1.1.0 in let vss = z.0.4 in
    let Post : Val → SProp 𝓤 = (walk_of 𝓛 En hs c).post z in let Run : List Val → SProp 𝓤 = λ us. WpFn 𝓤 H 𝓣.C 𝓣.Λ fn us Post in
    let toks = ‵ (flft κs.0 qs.0) ⊛ ‵ (flft κs.1.0 qs.1.0) ⊛ ‵ ftrue in let Asked : Type 0 = (i < length d.placed) × (p ≡ place_of d.placed i) in
    qed 𝓛 ((toks ⊛ ‵ (owns (types_at En.signature.params κs) z.0.3 vss)) ∷ raw ((c κs z.0.3).requires z.1) ∷ []) ∵ split ! $ move ! (1 ∷ []) $ fsplit3 ! $ fsplit3 ! $ feq_l ! (λ e₀. keep ! (0 ∷ 1 ∷ 4 ∷ 5 ∷ []) $
    move ! (3 ∷ []) $ use1 𝓛 (raw (fact 𝓤 (κs.1.0 ⊑ Y.lives)) ⊛ raw (fact 𝓤 Asked)) (id⊢ 𝓤 _) $ split ! $ drop ! $ heard ! Asked (λ asked. move ! (2 ∷ []) $ split ! $ move ! (2 ∷ 3 ∷ []) $ move ! (0 ∷ 1 ∷ 2 ∷ []) $
    let parts = parts_at d.placed i asked.0 in let xs = parts.0 in let b = parts.1 in let ys = parts.2 in
    regoal ! (λ (us : List Val). prop (Run (us ++ (vss.1.0 ++ (vss.1.1.0 ++ []))))) e₀ refl $ regoal ! (λ (us : List Val). prop (Run (vptr rb ro ∷ (us ++ (vss.1.1.0 ++ []))))) are.1.0 refl $ regoal ! (λ (us : List Val). prop (Run (vptr rb ro ∷ ptr_val p ∷ (us ++ [])))) are.1.1.0.0 refl $
    enter ! 𝓣.C 𝓣.Λ fn (vptr rb ro ∷ ptr_val p ∷ vint w64 i ∷ []) Post $ alloc_all ! (λ l. pass_all ! refl ((tt, tt), (Ptr-Good p, ((tt, record { fits = are.1.1.0.1 }), tt))) $ let Ev = env fn.locals l in
    lends Y ! tt d rb ro (λ vs. move ! (1 ∷ []) $ rewrite ! 0 (λ (bs : List (Placed Y.Denot)). ‵ (Held Y bs)) parts.3 refl $
    use1 𝓛 (‵ (Held Y xs) ⊛ ‵ (Held Y (b ∷ ys))) (own_out Y 𝓛 xs (b ∷ ys)) $ split ! $ move ! (1 ∷ []) $ fsplit ! $ one_opens Y L ! b (λ k o hv v e good fits.
    rewrite ! 16 (λ (w : Val). ‵ (fat full_share ty_ptr (l 2) zero w)) (ap ptr_val (asked.1 ∙ place_there d.placed xs b ys i parts.3 parts.4 ∙ e)) refl $
    first ! $ blocks ! $ sets_last ! (of_opd ! (load ! (through ! refl (fld ! refl (stop !))) (look_in ! 0 (sub ! 0 refl (whole !))))) refl (Ptr-Good b.1.next) $ exec ! 𝓣.C 𝓣.Λ Ev (after 1 fn.body) (at_ret Ev Post) $
    sets ! (of_opd ! (get ! refl)) refl (Ptr-Good b.1.next) $ box_closes Y ! k o b.1.next b.1.alloc b.1.alloc b.1.elem hv v $ rewrite ! 0 (λ (a : Ptr). ‵ (One Y (a, b.1))) (sym e) refl $ fjoin ! $ move ! (1 ∷ 0 ∷ []) $
    use2 𝓛 (‵ (Held Y (xs ++ b ∷ ys))) (own_in Y 𝓛 xs (b ∷ ys)) $ rewrite ! 0 (λ (bs : List (Placed Y.Denot)). ‵ (Held Y bs)) (sym parts.3) refl $ move ! (1 ∷ 0 ∷ []) $ gives_back Y ! tt d vs rb ro $
    returns ! (look_at ! 0 refl) $ free_all ! refl $ move ! (2 ∷ 3 ∷ []) $ join ! $ move ! (1 ∷ 2 ∷ []) $
    feq_i ! (List Val) vss.0 (vptr rb ro ∷ []) e₀ $ fjoin3 ! $ nothing ! $ nothing ! $ fjoin ! $ nothing ! $ fjoin ! $ move ! (1 ∷ 0 ∷ []) $ fjoin ! $
    feq_i ! (List Val) (ptr_val b.1.next ∷ []) (ptr_val b.1.next ∷ []) refl $
    let reads : b.1.next ≡ next_of d.placed i = sym (next_there d.placed xs b ys i parts.3 parts.4) in
    use0 𝓛 (raw (fact 𝓤 (b.1.next ≡ next_of d.placed i))) (fact_i 𝓤 _ (emp 𝓤) reads) $ use0 𝓛 (raw (fact 𝓤 (d ≡ d))) (fact_i 𝓤 _ (emp 𝓤) refl) $ move ! (1 ∷ 0 ∷ []) $ join ! $
    move ! (3 ∷ 2 ∷ 1 ∷ 0 ∷ []) $ by ! (leaves 𝓛 En hs c z (ptr_val b.1.next) b.1.next (d, (tt, (tt, tt))) (tt, (tt, (tt, tt))))))))))
