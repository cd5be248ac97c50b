use Rattle.kob_script.proofs.Imports.{arith, refl, sym}
use Rattle.kob_script.proofs.RawWords.{bits_behind, blank_there, is_before_end, letters_before, letters_joined, no_blank, was_plain}
use Rattle.kob_script.proofs.raw_words.RawWords.pass_blank.Goals as goal

pub returns-then-self-clause-letters : goal.returns-then-self-clause-letters
returns-then-self-clause-letters c =
    let s = c.loop-self.self in
    rw (sym c.loop-self.invariant.line) (letters_joined s.line.now _ _ _ c.loop-self.invariant.letters
    (no_blank s.line.now s.at s.end s.blanks s.order s.within s.few s.bits c.loop-self-test.true))

pub overflow_shr-self : goal.overflow_shr-self
overflow_shr-self c =
    let s = c.loop-self.self in
    let before = is_before_end s.line.now s.at s.end s.blanks s.order s.within s.few s.bits (omega (arith, c.loop-self-test.false)) in
    omega (arith, before, s.few)

pub returns-clause-letters : goal.returns-clause-letters
returns-clause-letters c =
    let s = c.loop-self.self in
    rw (sym c.loop-self.invariant.line) (letters_joined s.line.now _ _ _ c.loop-self.invariant.letters
    (letters_before s.line.now s.at s.end s.blanks s.order s.within s.few s.bits (omega (arith, c.loop-self-test.false))))

pub returns-clause-blank : goal.returns-clause-blank
returns-clause-blank c =
    let s = c.loop-self.self in
    λ below. (rw (sym c.loop-self.invariant.line) (blank_there s.line.now s.at s.end s.blanks s.order s.within s.few s.bits (omega (arith, c.loop-self-test.false))), refl)

pub invariant_of-self-2-clause-bits : goal.invariant_of-self-2-clause-bits
invariant_of-self-2-clause-bits c =
    let s = c.loop-self.self in
    bits_behind s.line.now s.at s.end s.blanks s.order s.within s.few s.bits (omega (arith, c.loop-self-test.false))

pub invariant_of-self-2-clause-order : goal.invariant_of-self-2-clause-order
invariant_of-self-2-clause-order c =
    let s = c.loop-self.self in
    let before = is_before_end s.line.now s.at s.end s.blanks s.order s.within s.few s.bits (omega (arith, c.loop-self-test.false)) in
    omega (arith, before)

pub loop-self-preserved : goal.loop-self-preserved
loop-self-preserved c =
    let s = c.loop-self.self in
    record {
      line = c.loop-self.invariant.line;
      from = omega (arith, c.loop-self.invariant.from, s.order);
      letters = letters_joined s.line.now _ _ _ c.loop-self.invariant.letters
          (no_blank s.line.now s.at s.end s.blanks s.order s.within s.few s.bits c.loop-self-test.true);
      before = λ both. c.loop-self.invariant.before (was_plain _ _ both);
    }
