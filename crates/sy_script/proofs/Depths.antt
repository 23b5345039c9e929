-- How much deeper a rule of the grammar may nest is the depth of its tree.
use Rattle.std.proofs.Common.{◌≡◌, ◌≤◌, ℕ, zero, suc, ◌+◌, List, ◌∷◌, map, Some, None, sym, ap, ◌∙◌, arith}
use Rattle.std.proofs.lemmas.Bool.Decides.{nat_tests}
use Rattle.sy_script.specs.declared.token.Kind.{Kind}
use Rattle.sy_script.specs.declared.token.Token.{Token}
use Rattle.sy_script.specs.declared.tree.Comparison.{Comparison}
use Rattle.sy_script.specs.declared.tree.Text.{Text}
use Rattle.sy_script.specs.declared.tree.Param.{Param}
use Rattle.sy_script.specs.declared.tree.Span.{Span}
use Rattle.sy_script.specs.declared.tree.Word.{Word}
use Rattle.sy_script.specs.declared.tree.ExprTree.{ExprTree}
use Rattle.sy_script.specs.declared.tree.ExprTree.TheVariants as e
use Rattle.sy_script.specs.declared.tree.ExprTree.TheOpen.{ExprTree-F}
use Rattle.sy_script.specs.declared.tree.ExprTree.TheFolds.{fold-roll-ExprTree}
use Rattle.sy_script.specs.declared.tree.Block.{Block}
use Rattle.sy_script.specs.declared.tree.Block.TheVariants as b
use Rattle.sy_script.specs.declared.tree.Block.TheOpen.{Block-F, Stmt-F}
use Rattle.sy_script.specs.declared.tree.Block.TheFolds.{fold-roll-Block, fold-roll-Stmt}
use Rattle.sy_script.specs.declared.tree.Stmt.{Stmt}
use Rattle.sy_script.specs.declared.tree.Stmt.TheVariants as s
use Rattle.sy_script.specs.declared.tree.Top.{Top}
use Rattle.sy_script.specs.declared.tree.Script.{Script}
use Rattle.sy_script.specs.Terms.{max_depth}
use Rattle.sy_script.specs.Grammar as g
use Rattle.sy_script.specs.Depth.{greater, most, expr_step, expr_depth, block_step, stmt_step, stmt_depth, top_depth, depth}
use Rattle.sy_script.specs.internal.Depth.{block_depth}

-- ---- the depth of each shape

or_is : (xs : List ExprTree) → expr_depth (e.Or xs) ≡ most (map expr_depth xs)
or_is xs = ap expr_depth (sym (e.rolls-Or xs)) ∙ fold-roll-ExprTree ℕ expr_step (ExprTree-F.Or xs)

and_is : (xs : List ExprTree) → expr_depth (e.And xs) ≡ most (map expr_depth xs)
and_is xs = ap expr_depth (sym (e.rolls-And xs)) ∙ fold-roll-ExprTree ℕ expr_step (ExprTree-F.And xs)

not_is : (x : ExprTree) → expr_depth (e.Not x) ≡ expr_depth x + 1
not_is x = ap expr_depth (sym (e.rolls-Not x)) ∙ fold-roll-ExprTree ℕ expr_step (ExprTree-F.Not x)

group_is : (x : ExprTree) → expr_depth (e.Group x) ≡ expr_depth x + 1
group_is x = ap expr_depth (sym (e.rolls-Group x)) ∙ fold-roll-ExprTree ℕ expr_step (ExprTree-F.Group x)

prifilt_is : (v : Text) → expr_depth (e.Prifilt v) ≡ 0
prifilt_is v = ap expr_depth (sym (e.rolls-Prifilt v)) ∙ fold-roll-ExprTree ℕ expr_step (ExprTree-F.Prifilt v)

compare_is : (c : Comparison) → expr_depth (e.Compare c) ≡ 0
compare_is c = ap expr_depth (sym (e.rolls-Compare c)) ∙ fold-roll-ExprTree ℕ expr_step (ExprTree-F.Compare c)

single_is : (x : Stmt) → block_depth (b.Single x) ≡ stmt_depth x + 1
single_is x = ap block_depth (sym (b.rolls-Single x)) ∙ fold-roll-Block ℕ ℕ block_step stmt_step (Block-F.Single x)

braced_is : (xs : List Stmt) → block_depth (b.Braced xs) ≡ most (map stmt_depth xs) + 1
braced_is xs = ap block_depth (sym (b.rolls-Braced xs)) ∙ fold-roll-Block ℕ ℕ block_step stmt_step (Block-F.Braced xs)

action_is : (w : Span) (ps : List Param) → stmt_depth (s.Action w ps) ≡ 0
action_is w ps = ap stmt_depth (sym (s.rolls-Action w ps)) ∙ fold-roll-Stmt ℕ ℕ block_step stmt_step (Stmt-F.Action w ps)

call_is : (w : Word) → stmt_depth (s.Call w) ≡ 0
call_is w = ap stmt_depth (sym (s.rolls-Call w)) ∙ fold-roll-Stmt ℕ ℕ block_step stmt_step (Stmt-F.Call w)

stop_is : (w : Span) → stmt_depth (s.Stop w) ≡ 0
stop_is w = ap stmt_depth (sym (s.rolls-Stop w)) ∙ fold-roll-Stmt ℕ ℕ block_step stmt_step (Stmt-F.Stop w)

one_way_is : (x : ExprTree) (done : Block) → stmt_depth (s.If x done None) ≡ greater (expr_depth x) (block_depth done)
one_way_is x done = ap stmt_depth (sym (s.rolls-If x done None)) ∙ fold-roll-Stmt ℕ ℕ block_step stmt_step (Stmt-F.If x done None)

two_ways_is : (x : ExprTree) (done other : Block) → stmt_depth (s.If x done (Some other)) ≡ greater (expr_depth x) (greater (block_depth done) (block_depth other))
two_ways_is x done other = ap stmt_depth (sym (s.rolls-If x done (Some other))) ∙ fold-roll-Stmt ℕ ℕ block_step stmt_step (Stmt-F.If x done (Some other))

-- ---- no rule nests deeper than it may

both : (a b n : ℕ) → a ≤ n → b ≤ n → greater a b ≤ n
both a b n h i = grind (arith, nat_tests)

left_of : (a b n : ℕ) → greater a b ≤ n → a ≤ n
left_of a b n h = grind (arith, nat_tests)

right_of : (a b n : ℕ) → greater a b ≤ n → b ≤ n
right_of a b n h = grind (arith, nat_tests)

flat : (d n : ℕ) → d ≡ 0 → d ≤ n
flat d n h = omega arith

prifilt_flat : {text : List ℕ} {x : ExprTree} {ts rest : List Token} → g.PrifiltAt text x ts rest → expr_depth x ≡ 0
prifilt_flat (g.PrifiltAt.prifilt a b c d) = prifilt_is _

mutual
  group_within : {text : List ℕ} {left : ℕ} {x : ExprTree} {ts rest : List Token} → g.GroupAt text left x ts rest → expr_depth x ≤ left
  group_within (g.GroupAt.group {x = x} a inner b) = omega (arith, group_is x, expr_within inner)

  unit_within : {text : List ℕ} {left : ℕ} {x : ExprTree} {ts rest : List Token} → g.UnitAt text left x ts rest → expr_depth x ≤ left
  unit_within (g.UnitAt.grouped inner) = group_within inner
  unit_within (g.UnitAt.not_grouped {x = x} a inner) = omega (arith, not_is x, group_within inner)
  unit_within (g.UnitAt.selected inner) = omega (arith, prifilt_flat inner)
  unit_within (g.UnitAt.not_selected {x = x} a inner) = omega (arith, not_is x, prifilt_flat inner)
  unit_within {left = left} (g.UnitAt.compared a b c) = flat _ left (compare_is _)

  more_within : {text : List ℕ} {left : ℕ} {joint : Kind} {xs : List ExprTree} {ts rest : List Token} → g.MoreAt text left joint xs ts rest → most (map expr_depth xs) ≤ left
  more_within g.MoreAt.none = omega arith
  more_within {left = left} (g.MoreAt.more {x = x} {xs = xs} a b c) = both (expr_depth x) (most (map expr_depth xs)) left (unit_within b) (more_within c)

  expr_within : {text : List ℕ} {left : ℕ} {x : ExprTree} {ts rest : List Token} → g.ExprAt text left x ts rest → expr_depth x ≤ left
  expr_within (g.ExprAt.alone a) = unit_within a
  expr_within {left = left} (g.ExprAt.any {x = x} {y = y} {xs = xs} a b) = omega (arith, or_is (x ∷ y ∷ xs), both (expr_depth x) (most (map expr_depth (y ∷ xs))) left (unit_within a) (more_within b))
  expr_within {left = left} (g.ExprAt.all {x = x} {y = y} {xs = xs} a b) = omega (arith, and_is (x ∷ y ∷ xs), both (expr_depth x) (most (map expr_depth (y ∷ xs))) left (unit_within a) (more_within b))

mutual
  pub stmt_within : {text : List ℕ} {left : ℕ} {x : Stmt} {ts rest : List Token} → g.StmtAt text left x ts rest → stmt_depth x ≤ left
  stmt_within {left = left} (g.StmtAt.action {a = w} {ps = ps} a b) = flat _ left (action_is w.span ps)
  stmt_within {left = left} (g.StmtAt.call a b) = flat _ left (call_is _)
  stmt_within {left = left} (g.StmtAt.stop {w = w} a) = flat _ left (stop_is w.span)
  stmt_within {left = left} (g.StmtAt.one_way {x = x} {done = done} a b c d e) = omega (arith, one_way_is x done, both (expr_depth x) (block_depth done) left (expr_within b) (block_within d))
  stmt_within {left = left} (g.StmtAt.two_ways {x = x} {done = done} {other = other} a b c d e f) =
      omega (arith, two_ways_is x done other, both (expr_depth x) (greater (block_depth done) (block_depth other)) left (expr_within b) (both (block_depth done) (block_depth other) left (block_within d) (block_within f)))

  block_within : {text : List ℕ} {left : ℕ} {x : Block} {ts rest : List Token} → g.BlockAt text left x ts rest → block_depth x ≤ left
  block_within (g.BlockAt.single {x = x} a) = omega (arith, single_is x, stmt_within a)
  block_within (g.BlockAt.braced {xs = xs} a b) = omega (arith, braced_is xs, body_within b)

  body_within : {text : List ℕ} {left : ℕ} {xs : List Stmt} {ts rest : List Token} → g.BodyAt text left xs ts rest → most (map stmt_depth xs) ≤ left
  body_within (g.BodyAt.close a) = omega arith
  body_within {left = left} (g.BodyAt.stmt {x = x} {xs = xs} a b) = both (stmt_depth x) (most (map stmt_depth xs)) left (stmt_within a) (body_within b)

pub top_within : {text : List ℕ} {left : ℕ} {x : Top} {ts rest : List Token} → g.TopAt text left x ts rest → top_depth x ≤ left
top_within (g.TopAt.object a b) = omega arith
top_within (g.TopAt.rules a b c d) = body_within d
top_within (g.TopAt.stmt a) = stmt_within a

pub tops_within : {text : List ℕ} {left : ℕ} {xs : List Top} {ts : List Token} → g.TopsAt text left xs ts → most (map top_depth xs) ≤ left
tops_within g.TopsAt.none = omega arith
tops_within {left = left} (g.TopsAt.more {x = x} {xs = xs} a b) = both (top_depth x) (most (map top_depth xs)) left (top_within a) (tops_within b)

pub script_within : (text : List ℕ) (script : Script) → g.IsScript text script → depth script ≤ max_depth
script_within text script is = tops_within is.tree

-- ---- what nests no deeper may stand there too

mutual
  group_fits : {text : List ℕ} {left : ℕ} {x : ExprTree} {ts rest : List Token} (n : ℕ) → g.GroupAt text left x ts rest → expr_depth x ≤ n → g.GroupAt text n x ts rest
  group_fits zero (g.GroupAt.group {x = x} a inner b) h = absurd (omega (arith, group_is x))
  group_fits (suc n) (g.GroupAt.group {x = x} a inner b) h = g.GroupAt.group a (expr_fits n inner (omega (arith, group_is x))) b

  unit_fits : {text : List ℕ} {left : ℕ} {x : ExprTree} {ts rest : List Token} (n : ℕ) → g.UnitAt text left x ts rest → expr_depth x ≤ n → g.UnitAt text n x ts rest
  unit_fits n (g.UnitAt.grouped inner) h = g.UnitAt.grouped (group_fits n inner h)
  unit_fits zero (g.UnitAt.not_grouped {x = x} a inner) h = absurd (omega (arith, not_is x))
  unit_fits (suc n) (g.UnitAt.not_grouped {x = x} a inner) h = g.UnitAt.not_grouped a (group_fits n inner (omega (arith, not_is x)))
  unit_fits n (g.UnitAt.selected inner) h = g.UnitAt.selected inner
  unit_fits zero (g.UnitAt.not_selected {x = x} a inner) h = absurd (omega (arith, not_is x))
  unit_fits (suc n) (g.UnitAt.not_selected a inner) h = g.UnitAt.not_selected a inner
  unit_fits n (g.UnitAt.compared a b c) h = g.UnitAt.compared a b c

  more_fits : {text : List ℕ} {left : ℕ} {joint : Kind} {xs : List ExprTree} {ts rest : List Token} (n : ℕ) → g.MoreAt text left joint xs ts rest → most (map expr_depth xs) ≤ n → g.MoreAt text n joint xs ts rest
  more_fits n g.MoreAt.none h = g.MoreAt.none
  more_fits n (g.MoreAt.more {x = x} {xs = xs} a b c) h =
      g.MoreAt.more a (unit_fits n b (left_of (expr_depth x) (most (map expr_depth xs)) n h)) (more_fits n c (right_of (expr_depth x) (most (map expr_depth xs)) n h))

  expr_fits : {text : List ℕ} {left : ℕ} {x : ExprTree} {ts rest : List Token} (n : ℕ) → g.ExprAt text left x ts rest → expr_depth x ≤ n → g.ExprAt text n x ts rest
  expr_fits n (g.ExprAt.alone a) h = g.ExprAt.alone (unit_fits n a h)
  expr_fits n (g.ExprAt.any {x = x} {y = y} {xs = xs} a b) h =
      let parts : most (map expr_depth (x ∷ y ∷ xs)) ≤ n = omega (arith, or_is (x ∷ y ∷ xs)) in
      g.ExprAt.any (unit_fits n a (left_of (expr_depth x) (most (map expr_depth (y ∷ xs))) n parts)) (more_fits n b (right_of (expr_depth x) (most (map expr_depth (y ∷ xs))) n parts))
  expr_fits n (g.ExprAt.all {x = x} {y = y} {xs = xs} a b) h =
      let parts : most (map expr_depth (x ∷ y ∷ xs)) ≤ n = omega (arith, and_is (x ∷ y ∷ xs)) in
      g.ExprAt.all (unit_fits n a (left_of (expr_depth x) (most (map expr_depth (y ∷ xs))) n parts)) (more_fits n b (right_of (expr_depth x) (most (map expr_depth (y ∷ xs))) n parts))

mutual
  pub stmt_fits : {text : List ℕ} {left : ℕ} {x : Stmt} {ts rest : List Token} (n : ℕ) → g.StmtAt text left x ts rest → stmt_depth x ≤ n → g.StmtAt text n x ts rest
  stmt_fits n (g.StmtAt.action a b) h = g.StmtAt.action a b
  stmt_fits n (g.StmtAt.call a b) h = g.StmtAt.call a b
  stmt_fits n (g.StmtAt.stop a) h = g.StmtAt.stop a
  stmt_fits n (g.StmtAt.one_way {x = x} {done = done} a b c d e) h =
      let parts : greater (expr_depth x) (block_depth done) ≤ n = omega (arith, one_way_is x done) in
      g.StmtAt.one_way a (expr_fits n b (left_of (expr_depth x) (block_depth done) n parts)) c (block_fits n d (right_of (expr_depth x) (block_depth done) n parts)) e
  stmt_fits n (g.StmtAt.two_ways {x = x} {done = done} {other = other} a b c d e f) h =
      let parts : greater (expr_depth x) (greater (block_depth done) (block_depth other)) ≤ n = omega (arith, two_ways_is x done other) in
      let blocks : greater (block_depth done) (block_depth other) ≤ n = right_of (expr_depth x) (greater (block_depth done) (block_depth other)) n parts in
      g.StmtAt.two_ways a (expr_fits n b (left_of (expr_depth x) (greater (block_depth done) (block_depth other)) n parts)) c
      (block_fits n d (left_of (block_depth done) (block_depth other) n blocks)) e (block_fits n f (right_of (block_depth done) (block_depth other) n blocks))

  block_fits : {text : List ℕ} {left : ℕ} {x : Block} {ts rest : List Token} (n : ℕ) → g.BlockAt text left x ts rest → block_depth x ≤ n → g.BlockAt text n x ts rest
  block_fits zero (g.BlockAt.single {x = x} a) h = absurd (omega (arith, single_is x))
  block_fits (suc n) (g.BlockAt.single {x = x} a) h = g.BlockAt.single (stmt_fits n a (omega (arith, single_is x)))
  block_fits zero (g.BlockAt.braced {xs = xs} a b) h = absurd (omega (arith, braced_is xs))
  block_fits (suc n) (g.BlockAt.braced {xs = xs} a b) h = g.BlockAt.braced a (body_fits n b (omega (arith, braced_is xs)))

  body_fits : {text : List ℕ} {left : ℕ} {xs : List Stmt} {ts rest : List Token} (n : ℕ) → g.BodyAt text left xs ts rest → most (map stmt_depth xs) ≤ n → g.BodyAt text n xs ts rest
  body_fits n (g.BodyAt.close a) h = g.BodyAt.close a
  body_fits n (g.BodyAt.stmt {x = x} {xs = xs} a b) h = g.BodyAt.stmt (stmt_fits n a (left_of (stmt_depth x) (most (map stmt_depth xs)) n h)) (body_fits n b (right_of (stmt_depth x) (most (map stmt_depth xs)) n h))

pub top_fits : {text : List ℕ} {left : ℕ} {x : Top} {ts rest : List Token} (n : ℕ) → g.TopAt text left x ts rest → top_depth x ≤ n → g.TopAt text n x ts rest
top_fits n (g.TopAt.object a b) h = g.TopAt.object a b
top_fits n (g.TopAt.rules a b c d) h = g.TopAt.rules a b c (body_fits n d h)
top_fits n (g.TopAt.stmt a) h = g.TopAt.stmt (stmt_fits n a h)

pub tops_fits : {text : List ℕ} {left : ℕ} {xs : List Top} {ts : List Token} (n : ℕ) → g.TopsAt text left xs ts → most (map top_depth xs) ≤ n → g.TopsAt text n xs ts
tops_fits n g.TopsAt.none h = g.TopsAt.none
tops_fits n (g.TopsAt.more {x = x} {xs = xs} a b) h = g.TopsAt.more (top_fits n a (left_of (top_depth x) (most (map top_depth xs)) n h)) (tops_fits n b (right_of (top_depth x) (most (map top_depth xs)) n h))

-- ---- what may stand somewhere may stand where more may nest

pub expr_up : {text : List ℕ} {left : ℕ} {x : ExprTree} {ts rest : List Token} (n : ℕ) → left ≤ n → g.ExprAt text left x ts rest → g.ExprAt text n x ts rest
expr_up n h d = expr_fits n d (omega (arith, expr_within d))

pub unit_up : {text : List ℕ} {left : ℕ} {x : ExprTree} {ts rest : List Token} (n : ℕ) → left ≤ n → g.UnitAt text left x ts rest → g.UnitAt text n x ts rest
unit_up n h d = unit_fits n d (omega (arith, unit_within d))

pub more_up : {text : List ℕ} {left : ℕ} {joint : Kind} {xs : List ExprTree} {ts rest : List Token} (n : ℕ) → left ≤ n → g.MoreAt text left joint xs ts rest → g.MoreAt text n joint xs ts rest
more_up {xs = xs} n h d = more_fits n d (omega (arith, more_within d))

pub stmt_up : {text : List ℕ} {left : ℕ} {x : Stmt} {ts rest : List Token} (n : ℕ) → left ≤ n → g.StmtAt text left x ts rest → g.StmtAt text n x ts rest
stmt_up n h d = stmt_fits n d (omega (arith, stmt_within d))

pub block_up : {text : List ℕ} {left : ℕ} {x : Block} {ts rest : List Token} (n : ℕ) → left ≤ n → g.BlockAt text left x ts rest → g.BlockAt text n x ts rest
block_up n h d = block_fits n d (omega (arith, block_within d))

pub body_up : {text : List ℕ} {left : ℕ} {xs : List Stmt} {ts rest : List Token} (n : ℕ) → left ≤ n → g.BodyAt text left xs ts rest → g.BodyAt text n xs ts rest
body_up n h d = body_fits n d (omega (arith, body_within d))

pub top_up : {text : List ℕ} {left : ℕ} {x : Top} {ts rest : List Token} (n : ℕ) → left ≤ n → g.TopAt text left x ts rest → g.TopAt text n x ts rest
top_up n h d = top_fits n d (omega (arith, top_within d))

pub tops_up : {text : List ℕ} {left : ℕ} {xs : List Top} {ts : List Token} (n : ℕ) → left ≤ n → g.TopsAt text left xs ts → g.TopsAt text n xs ts
tops_up n h d = tops_fits n d (omega (arith, tops_within d))
