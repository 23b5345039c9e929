use Rattle.std.proofs.Common.{subst, sym}
use Rattle.std.specs.Prelude.{Contains}
use Rattle.sy_fit.specs.Acceptance.{AreReached}
use Rattle.sy_checker.proofs.checking.accepted.Goals as goal

pub check_classes-requires : goal.check_classes-requires
check_classes-requires c = record {
  protected = λ class there. (c.in_ok-classes.ensures.member class).0 (subst (λ l. Contains l class) c.as_slice.ensures.value there);
}

pub new-requires : goal.new-requires
new-requires c = record {
  protected = c.in_ok-classes.ensures;
  pairs = subst (λ l. AreReached c.args.site.now l c.in_ok-pairs.pairs.items) c.as_slice.ensures.value c.in_ok-pairs.ensures.pairs;
  sound = λ class protected.
      c.in_ok-pairs.ensures.sound class
      (subst (λ l. Contains l class) (sym c.as_slice.ensures.value) ((c.in_ok-classes.ensures.member class).1 protected));
}

pub returns-clause-sound : goal.returns-clause-sound
returns-clause-sound c = λ class protected.
    c.in_ok-pairs.ensures.sound class
    (subst (λ l. Contains l class) (sym c.as_slice.ensures.value) ((c.in_ok-classes.ensures.member class).1 protected))
