use Rattle.std.proofs.Common.{rules, ℕ, List, refl, sym, ◌∙◌, subst, arith}
use Rattle.area_core.proofs.Unwritten.{reads_yet}
use Rattle.area_core.proofs.Walked.{reads_then}
use Rattle.recover_core.specs.Walks.{HasEnded, HasWalked}
use Rattle.recover_core.proofs.Walking.{measure, read_of, refuses_on, too_large}
use Rattle.recover_core.proofs.reading.read_blocks.Goals as goal

pub loop-more-smaller : goal.loop-more-smaller
loop-more-smaller g c =
    measure c.loop-more.more c.in_ok-more.more c.loop-more.area.size c.read_block.new.area.size c.loop-more.area.gate c.read_block.new.area.gate
    c.loop-more-test.true c.read_block.ensures.place.size c.read_block.ensures.place.gate c.in_ok-more.ensures.steps.grows c.read_block.new.area.within

pub loop-more-preserved : goal.loop-more-preserved
loop-more-preserved g c =
    let inv = c.loop-more.invariant in
    let after = c.read_block.ensures in record {
      walked = λ honest w is.
          let same = (inv.reads.quiet honest).content in
          subst (λ (l : List ℕ). HasWalked c.read_block.new.area c.read_block.new.broker.state l) same
          ((c.in_ok-more.ensures.walks (inv.reads.honest honest)).on is (subst (λ (l : List ℕ). HasWalked c.loop-more.area c.loop-more.broker.state l) (sym same) (inv.walked honest w c.loop-more-test.true)));
      ended = λ honest w is.
          let same = (inv.reads.quiet honest).content in
          subst (λ (l : List ℕ). HasEnded c.read_block.new.area c.read_block.new.broker.state l) same
          ((c.in_ok-more.ensures.walks (inv.reads.honest honest)).end is (subst (λ (l : List ℕ). HasWalked c.loop-more.area c.loop-more.broker.state l) (sym same) (inv.walked honest w c.loop-more-test.true)));
      place = record {
        size = after.place.size ∙ inv.place.size;
        selector = after.place.selector ∙ inv.place.selector;
        broken = after.place.broken ∙ inv.place.broken;
        version = after.place.version ∙ inv.place.version;
        gate = omega (arith, after.place.gate, inv.place.gate);
      };
      broker = c.in_ok-more.ensures.steps.whole;
      reads = reads_then g.D.Disk c.args.disk.now c.loop-more.disk c.read_block.new.disk inv.reads after.reads;
      failures = c.in_ok-more.ensures.cause ∙ inv.failures;
    }

pub returns-then-count-gt-MOST_COUNTED-clause-refuses : goal.returns-then-count-gt-MOST_COUNTED-clause-refuses
returns-then-count-gt-MOST_COUNTED-clause-refuses g c = record {
  told = λ honest w.
      too_large c.loop-more.area c.loop-more.broker.state (g.D.Disk.content c.args.disk.now)
      (c.loop-more.invariant.ended honest w c.loop-more-test.false) (omega (arith, c.if-count-gt-MOST_COUNTED.true, c.count.ensures));
  kind = tt;
}

pub returns-clause-read : goal.returns-clause-read
returns-clause-read g c honest w =
    read_of c.loop-more.area c.loop-more.broker.state (g.D.Disk.content c.args.disk.now)
    (c.loop-more.invariant.ended honest w c.loop-more-test.false) (omega (arith, c.if-count-gt-MOST_COUNTED.false, c.count.ensures))

pub loop-more-init : goal.loop-more-init
loop-more-init g c = record {
  walked = λ honest w is. w;
  ended = λ honest w is. absurd (cc is);
  place = record { size = refl; selector = refl; broken = refl; version = refl; gate = omega arith };
  broker = c.requires.whole;
  reads = reads_yet g.D.Disk c.args.disk.now (g.met.D.Disk.only_now c.args.disk.now);
  failures = refl;
}

pub returns-in_err-more-clause-reads : goal.returns-in_err-more-clause-reads
returns-in_err-more-clause-reads g c = reads_then g.D.Disk c.args.disk.now c.loop-more.disk c.read_block.new.disk c.loop-more.invariant.reads c.read_block.ensures.reads

pub returns-in_err-more-clause-refuses : goal.returns-in_err-more-clause-refuses
returns-in_err-more-clause-refuses g c =
    let inv = c.loop-more.invariant in
    refuses_on g.D.Disk c.args.disk.now c.loop-more.disk c.args.area.now c.loop-more.area c.args.broker.now.state c.loop-more.broker.state c.from_residual.result inv.reads.honest (λ h. (inv.reads.quiet h).content)
    (λ h w. inv.walked h w c.loop-more-test.true) (search rules)
