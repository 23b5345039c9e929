use Rattle.std.proofs.Common.{◌∙◌, [], ◌∷◌, ◌++◌, map, ap}
use Rattle.std.specs.Prelude.{flat_map}
use Rattle.sy_board.specs.relay.Spares.{Scope}
use Rattle.sy_site.specs.Sites.{archives}
use Rattle.sy_fit.specs.Fit.{paths}
use Rattle.sy_fit.specs.declared.rows.wanted.Wanted.TheVariants as wanted
use Rattle.sy_flows.proofs.There.{reach_there}
use Rattle.sy_fit.proofs.Joined.{are_wanted}
use Rattle.sy_fit.proofs.rows.wanted.wanted_rows.Goals as goal

pub sorted-requires : goal.sorted-requires
sorted-requires c = record {
  there = λ x there. reach_there c.args.site.now c.is_lawful.ensures c.args.class Scope.Firm x ((c.requires.firm x).0 there);
}

pub rest-requires : goal.rest-requires
rest-requires c = record {
  there = λ x there. reach_there c.args.site.now c.is_lawful.ensures c.args.class Scope.Every x ((c.requires.every x).0 there);
}

pub relays_of-requires : goal.relays_of-requires
relays_of-requires c = record {
  there = λ x there. reach_there c.args.site.now c.is_lawful.ensures c.args.class Scope.Every x ((c.requires.every x).0 there);
}

pub returns : goal.returns
returns c =
    let first = c.in_ok-push.ensures.items ∙ ap (λ l. l ++ wanted.Class c.args.class ∷ []) c.new-part.ensures.items in
    let second = c.in_ok-push_inputs.ensures ∙ ap (λ l. c.push.new.self.items ++ map wanted.Reach l) c.as_slice.ensures.value
    ∙ ap (λ l. l ++ map wanted.Reach c.in_ok-inputs.inputs.items) first in
    let branched = c.in_ok-push_branches.ensures ∙ ap (λ l. c.push_inputs.new.part.items ++ map wanted.Branch l) c.as_slice-2.ensures.value
    ∙ ap (λ l. l ++ map wanted.Branch c.in_ok-branches.branches.items) second in
    let third = c.in_ok-push_relays.ensures ∙ ap (λ l. c.push_branches.new.part.items ++ map wanted.Rank l) c.as_slice-3.ensures.value
    ∙ ap (λ l. l ++ map wanted.Rank c.in_ok-relays.relays.items) branched in
    let fourth = c.in_ok-push_inners.ensures ∙ ap (λ l. c.push_relays.new.part.items ++ map wanted.Inner l) c.as_slice-4.ensures.value
    ∙ ap (λ l. l ++ map wanted.Inner c.in_ok-inners.inners.items) third in
    let last = c.in_ok-push_all_paths.ensures
    ∙ ap (λ l. c.push_inners.new.part.items ++ flat_map (λ e. map (λ a. wanted.Path e a) l) c.entries.result.now)
    (c.as_slice-5.ensures.value ∙ c.in_ok-archives.ensures)
    ∙ ap (λ l. c.push_inners.new.part.items ++ flat_map (λ e. map (λ a. wanted.Path e a) (archives c.args.site.now c.args.class)) l) c.entries.ensures
    ∙ ap (λ l. l ++ paths c.args.site.now c.args.class) fourth in
    are_wanted c.args.site.now c.args.class c.args.firm.now c.args.every.now c.in_ok-inputs.inputs.items c.in_ok-branches.branches.items
    c.in_ok-relays.relays.items c.in_ok-inners.inners.items c.push_all_paths.new.part.items c.requires.firm c.requires.every c.in_ok-inputs.ensures c.in_ok-branches.ensures
    c.in_ok-relays.ensures c.in_ok-inners.ensures last
