-- `one` takes a box over. Assumes `Logic`.
use Rattle.std.proofs.Common.{◌≡◌, List, [], ◌∷◌, ◌++◌, refl}
use mir.Syntax.{Fn, Args, a_type}
use mir.MapTy.{inst_fn}
use mir.Val.{Val, vptr}
use base.Logic.{SProp, emp}
use base.Fml.{ftrue, flft}
use prog.Wp.{WpFn}
use contract.Monad.{fact, fact_i}
use contract.Running.{tables}
use types.Kit.{‵, raw, ◌⊛◌, prop, ◌$◌, ◌∵◌, !, qed, by, move, keep, use0, regoal, split, join, fsplit, fjoin, feq_i}
use types.Part.{agg, whole, sub}
use mir.Raw.{raw as bare}
use types.Run.{stop, fld, of_opd, and_then, no_more, returns, enter}
use types.ByLocal.{alloc_all, pass_all, free_all, look_at, get, get_in, sets}
use denote.Exit.{no}
use denote.RattleType.{owns}
use denote.Signature.{types_at, plain}
use denote.RawPtr.{Ptr, RawPtr, block_ptr, count_of}
use denote.Param.{layouts}
use denote.Steps.{nothing}
use denote.Triple.Walked.{Stays, stay_dropped, walk_of}
use Rattle.std.proofs.raw_atomic.Walks.{proved_at, leaves}
use Rattle.core.proofs.alloc.Calls.{Goes-blank}
use Rattle.std.proofs.GlobalToken.{dealloc_token_start}
use Rattle.std_heap.specs.contracts.Global as Heap
use Rattle.std_heap.specs.contracts.GlobalAllocator.TheImpl.{ghosts}
use Rattle.std_heap.proofs.Global.TheLaws as heap
use Rattle.sy_chain.specs.internal.Linked.{IsStart}
use Rattle.sy_chain.proofs.RawBoxes.{both, raw_good, raw_out}
use Rattle.sy_chain.proofs.Steps.{D, Sr, Bl, Raw, block_ty, learns, two_made, made, none, only_field, two}
use Rattle.sy_chain.specs.contracts.blocks.Blocks.one.{ended, clauses}
use Rattle.sy_chain.specs.contracts.blocks.Blocks.one.Key.{name as #self}
use Rattle.sy_chain.proofs.blocks.Blocks.one.Statement.{statement}
use Rattle.sy_chain.proofs.blocks.Blocks.one.Code as code

pub one_spec : {M : Type 1} → statement M
one_spec 𝓤 𝓛 𝓜 𝓡 wired Y L =
    let H = 𝓛.H in let 𝓣 = tables 𝓤 H 𝓜 𝓡 𝓡.env in let En = ended Y in let c = clauses Y 𝓛 𝓜.mem 𝓡.returns in let types : Args = layouts (a_type ∷ []) (Y, tt) in let fn : Fn = inst_fn types code.function in
    let hs : Stays En.signature.params En.kept = (stay_dropped (plain (λ _. Raw Y)) no, tt) in
    proved_at 𝓛 En hs c 𝓜 𝓡 (Goes-blank 𝓛 1 (plain (λ _. Raw Y)) no (λ κs x f. tt), tt) (#self types) fn (code.unfolded 𝓤 H 𝓜 𝓡 wired (Y, tt)) (λ z are.
    let κs = z.0.0 in let qs = z.0.1 in let block = z.0.3.0 in let vss = z.0.4 in
    let Post : Val → SProp 𝓤 = (walk_of 𝓛 En hs c).post z in let Run : List Val → SProp 𝓤 = λ us. WpFn 𝓤 H 𝓣.C 𝓣.Λ fn us Post in
    qed 𝓛 (((‵ (flft κs.0 qs.0) ⊛ ‵ ftrue) ⊛ ‵ (owns (types_at En.signature.params κs) z.0.3 vss)) ∷ raw ((c κs z.0.3).requires z.1) ∷ []) ∵ split ! $ move ! (1 ∷ []) $ fsplit ! $
    raw_out (Bl Y) Heap.the_row heap.the_row_laws ghosts ! block vss.0 (λ k o hv at e fits. keep ! (0 ∷ 3 ∷ []) $ fsplit ! $ move ! (1 ∷ []) $
    learns ! 1 (count_of (block_ptr k o) ≡ 0) (dealloc_token_start 𝓛 block.alloc (bare (block_ty Y)) (block_ptr k o)) (λ start. move ! (1 ∷ 0 ∷ []) $ fjoin ! $
    let p : Ptr = block_ptr k o in let w : Val = both (vptr k o) hv in let d : D Y = record { values = record {}; placed = (p, block.value) ∷ [] } in let v : Val = two (vptr k o) (only_field none) in
    regoal ! (λ (us : List Val). prop (Run (us ++ []))) e refl $
    enter ! 𝓣.C 𝓣.Λ fn (w ∷ []) Post $ alloc_all ! (λ l. pass_all ! refl (raw_good (Bl Y) Heap.the_row heap.the_row_laws ghosts k o hv fits, tt) $
    sets ! (of_opd ! (get_in ! (fld ! refl (stop !)) (sub ! 0 refl (whole !)))) refl (tt, tt) $ sets ! (agg ! (no_more !)) refl (tt, tt) $ sets ! (agg ! (and_then ! (get ! refl) (no_more !))) refl (tt, (tt, tt)) $
    sets ! (agg ! (and_then ! (get ! refl) (and_then ! (get ! refl) (no_more !)))) refl (tt, (tt, ((tt, tt), tt))) $
    nothing ! $ move ! (1 ∷ 0 ∷ []) $ fjoin ! $ made Y ! d.placed $ feq_i ! (List Val) (vptr k o ∷ []) (vptr k o ∷ []) refl $ two_made ! RawPtr (Sr Y) p d (vptr k o) (only_field none) $
    returns ! (look_at ! 0 refl) $ free_all ! refl $ nothing ! $ nothing ! $ fjoin ! $
    use0 𝓛 (raw (fact 𝓤 (d.placed ≡ (p, block.value) ∷ []))) (fact_i 𝓤 _ (emp 𝓤) refl) $ use0 𝓛 (raw (fact 𝓤 (IsStart p))) (fact_i 𝓤 _ (emp 𝓤) (tt, start)) $ move ! (1 ∷ 0 ∷ []) $ join ! $
    move ! (3 ∷ 1 ∷ 2 ∷ 0 ∷ []) $ by ! (leaves 𝓛 En hs c z v (p, d) (tt, tt) (tt, tt))))))
