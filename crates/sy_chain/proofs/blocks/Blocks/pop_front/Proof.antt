-- `pop_front` hands out the first block, with the handle that it keeps. Assumes `Logic`.
use Rattle.std.proofs.Common.{◌≡◌, List, [], ◌∷◌, ◌++◌, refl, sym, ap, ◌∙◌}
use base.Fraction.{full_share}
use Prim.Native.Nat.{zero, ◌<◌}
use lib.ListN.{length}
use mir.Syntax.{Fn, Args, a_type, ty_ptr}
use mir.MapTy.{inst_fn}
use mir.Val.{Val, vptr}
use base.Logic.{SProp, emp, id⊢}
use base.Fml.{ftrue, fat, flft}
use prog.Wp.{WpFn}
use contract.Monad.{fact, fact_i}
use contract.BorrowLft.{◌⊑◌}
use contract.Running.{tables}
use types.Kit.{‵, raw, ◌⊛◌, prop, at_ret, ◌$◌, ◌∵◌, !, qed, by, move, keep, drop, use0, use1, regoal, rewrite, split, join, fsplit, fsplit3, fjoin, fjoin3, feq_i, feq_l}
use types.Part.{agg, whole, sub, look_in}
use types.Run.{stop, fld, load, of_opd, and_then, no_more, first, blocks, exec, returns, enter}
use types.ByLocal.{alloc_all, pass_all, free_all, look_at, get, through, sets, sets_last, env}
use denote.Exit.{yes}
use denote.RattleType.{owns}
use denote.Signature.{types_at, plain}
use denote.RawPtr.{Ptr, RawPtr, block_ptr, ptr_val}
use denote.Param.{layouts}
use denote.Steps.{nothing, heard}
use denote.Triple.Walked.{Stays, stay_ref, stay_dropped, walk_of, Goes-ref, Goes-dropped}
use Rattle.std.proofs.raw_atomic.Walks.{proved_at, leaves}
use Rattle.std_alloc.proofs.VecSteps.Shapes.{after}
use Rattle.std_alloc.proofs.RcSteps.{Ptr-Good}
use Rattle.std_heap.specs.contracts.Global as Heap
use Rattle.std_heap.specs.contracts.GlobalAllocator.TheImpl.{ghosts}
use Rattle.std_heap.proofs.Global.TheLaws as heap
use Rattle.sy_chain.specs.internal.Linked.{Placed, place_of}
use Rattle.sy_chain.proofs.RawBoxes.{both, raw_good, raw_in}
use Rattle.sy_chain.proofs.Leading.{parts_first}
use Rattle.sy_chain.proofs.Steps.{D, Sr, Bl, Raw, Held, heap_copy, one_opens, box_closes, lends, gives_back}
use Rattle.sy_chain.specs.contracts.blocks.Blocks.pop_front.{ended, clauses}
use Rattle.sy_chain.specs.contracts.blocks.Blocks.pop_front.Key.{name as #self}
use Rattle.sy_chain.proofs.blocks.Blocks.pop_front.Statement.{statement}
use Rattle.sy_chain.proofs.blocks.Blocks.pop_front.Code as code

pub pop_front_spec : {M : Type 1} → statement M
pop_front_spec 𝓤 𝓛 𝓜 𝓡 wired Y L =
    let H = 𝓛.H in let 𝓣 = tables 𝓤 H 𝓜 𝓡 𝓡.env in let En = ended Y in let c = clauses Y 𝓛 𝓜.mem 𝓡.returns in let types : Args = layouts (a_type ∷ []) (Y, tt) in let fn : Fn = inst_fn types code.function in
    let hs : Stays En.signature.params En.kept = (stay_ref (0 ∷ []) tt (plain (λ _. Sr Y)), (stay_dropped (plain (λ _. RawPtr)) yes, tt)) in
    proved_at 𝓛 En hs c 𝓜 𝓡 (Goes-ref 𝓛 2 0 tt (plain (λ _. Sr Y)), (Goes-dropped 𝓛 2 (plain (λ _. RawPtr)) yes (λ κs x f. refl), tt)) (#self types) fn (code.unfolded 𝓤 H 𝓜 𝓡 wired (Y, tt)) (λ z are.
    let κs = z.0.0 in let qs = z.0.1 in let self = z.0.3.0 in let d = self.now in let rb = self.ref_ptr.0 in let ro = self.ref_ptr.1 in let vss = z.0.4 in
    let Post : Val → SProp 𝓤 = (walk_of 𝓛 En hs c).post z in let Run : List Val → SProp 𝓤 = λ us. WpFn 𝓤 H 𝓣.C 𝓣.Λ fn us Post in
    let toks = ‵ (flft κs.0 qs.0) ⊛ ‵ (flft κs.1.0 qs.1.0) ⊛ ‵ ftrue in
    let p : Ptr = z.0.3.1.0 in let Asked : Type 0 = (0 < length d.placed) × (p ≡ place_of d.placed 0) in
    qed 𝓛 ((toks ⊛ ‵ (owns (types_at En.signature.params κs) z.0.3 vss)) ∷ raw ((c κs z.0.3).requires z.1) ∷ []) ∵ split ! $ move ! (1 ∷ []) $ fsplit3 ! $ fsplit3 ! $ feq_l ! (λ e₀. keep ! (0 ∷ 1 ∷ 4 ∷ 5 ∷ []) $
    move ! (3 ∷ []) $ use1 𝓛 (raw (fact 𝓤 (κs.1.0 ⊑ Y.lives)) ⊛ raw (fact 𝓤 Asked)) (id⊢ 𝓤 _) $ split ! $ drop ! $ heard ! Asked (λ asked. move ! (2 ∷ []) $ split ! $ move ! (2 ∷ 3 ∷ []) $
    let parts = parts_first d.placed asked.0 in let b = parts.0 in let ys = parts.1 in let g = b.1.alloc in let new : D Y = record d { placed = ys } in
    let lies : p ≡ b.0 = asked.1 ∙ ap (λ bs. place_of bs 0) parts.2 in
    regoal ! (λ (us : List Val). prop (Run (us ++ (vss.1.0 ++ [])))) e₀ refl $ regoal ! (λ (us : List Val). prop (Run (vptr rb ro ∷ (us ++ [])))) are.1.0 refl $
    enter ! 𝓣.C 𝓣.Λ fn (vptr rb ro ∷ ptr_val p ∷ []) Post $ alloc_all ! (λ l. pass_all ! refl ((tt, tt), (Ptr-Good p, tt)) $ let Ev = env fn.locals l in
    lends Y ! tt d rb ro (λ vs. move ! (1 ∷ []) $ rewrite ! 0 (λ (bs : List (Placed Y.Denot)). ‵ (Held Y bs)) parts.2 refl $ fsplit ! $ one_opens Y L ! b (λ k o hv v e good fits.
    let typed = raw_good (Bl Y) Heap.the_row heap.the_row_laws ghosts k o hv fits in let at : p ≡ block_ptr k o = lies ∙ e in
    -- [the block, in four; the others; what the fields own; the cell; the open borrow; obs; auth; the token; the locals]
    rewrite ! 15 (λ (w : Val). ‵ (fat full_share ty_ptr (l 2) zero w)) (ap ptr_val at) refl $
    first ! $ blocks ! $ sets_last ! (of_opd ! (load ! (through ! refl (fld ! refl (stop !))) (look_in ! 0 (sub ! 1 refl (whole !))))) refl fits $ exec ! 𝓣.C 𝓣.Λ Ev (after 1 fn.body) (at_ret Ev Post) $
    sets ! (of_opd ! (get ! refl)) refl fits $ sets ! (agg ! (and_then ! (get ! refl) (and_then ! (get ! refl) (no_more !)))) refl typed $
    move ! (2 ∷ []) $ use1 𝓛 (‵ (Heap.the_row.own_val g (hv ∷ [])) ⊛ ‵ (Heap.the_row.own_val g (hv ∷ []))) ((heap_copy.copies _ _ 𝓛).twice (Heap.the_type.to g) (hv ∷ [])) $ split ! $ move ! (2 ∷ 3 ∷ 0 ∷ 4 ∷ []) $
    box_closes Y ! k o b.1.next g g b.1.elem hv v $ move ! (0 ∷ 1 ∷ []) $ raw_in (Bl Y) Heap.the_row heap.the_row_laws ghosts ! k o hv g b.1 $ move ! (2 ∷ 1 ∷ 3 ∷ 4 ∷ 5 ∷ 6 ∷ []) $ gives_back Y ! tt new vs rb ro $
    returns ! (look_at ! 0 refl) $ free_all ! refl $ move ! (2 ∷ 4 ∷ []) $ join ! $ move ! (1 ∷ 2 ∷ []) $
    feq_i ! (List Val) vss.0 (vptr rb ro ∷ []) e₀ $ fjoin3 ! $ nothing ! $ nothing ! $ fjoin ! $ move ! (1 ∷ 0 ∷ []) $ fjoin ! $
    let r : (Raw Y).Denot = record { at = block_ptr k o; alloc = g; value = b.1 } in
    use0 𝓛 (raw (fact 𝓤 (d.placed ≡ (p, b.1) ∷ ys))) (fact_i 𝓤 _ (emp 𝓤) (parts.2 ∙ ap (λ a. (a, b.1) ∷ ys) (sym lies))) $ move ! (2 ∷ 1 ∷ 3 ∷ 0 ∷ []) $
    by ! (leaves 𝓛 En hs c z (both (vptr k o) hv) r (new, (tt, tt)) (tt, (tt, tt)))))))))
