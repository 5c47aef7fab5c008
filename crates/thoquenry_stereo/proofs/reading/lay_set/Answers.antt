-- `reading::lay_set` meets its contract: 17, or both rows of each.
-- Assumes nothing.
use mathlib.Core.Path.{◌≡◌, ◌∙◌, ap, sym}
use borrow.Author.Tests.{lt-ltb, le-ltb}
use lib.ListN.{length}
use Rattle.thoquenry_stereo.specs.Reading.{Left, set_laid, unchanged_both, laid_both}
use Rattle.vocabulary.specs.declared.refusal.Refusal.TheVariants.{NoRoom}
use Rattle.thoquenry_stereo.proofs.reading.lay_set.Goals as goal

pub returns-then-entries-lt-ENTRY_NUMBERS : goal.returns-then-entries-lt-ENTRY_NUMBERS
returns-then-entries-lt-ENTRY_NUMBERS c =
    let a = c.args in
    let same : set_laid a.read a.entries.now a.extensions.now ≡ unchanged_both NoRoom a.entries.now a.extensions.now =
    rw (lt-ltb (length a.entries.now) 160 c.if-entries-lt-ENTRY_NUMBERS.true) in record {
      answer = c.refused.ensures ∙ sym (ap (λ (l : Left). l.answer) same);
      rows = sym (ap (λ (l : Left). l.entries) same);
      beside = sym (ap (λ (l : Left). l.extensions) same);
    }

pub returns-then-extensions-lt-EXTENSION_NUMBERS : goal.returns-then-extensions-lt-EXTENSION_NUMBERS
returns-then-extensions-lt-EXTENSION_NUMBERS c =
    let a = c.args in
    let same : set_laid a.read a.entries.now a.extensions.now ≡ unchanged_both NoRoom a.entries.now a.extensions.now =
    rw (le-ltb (length a.entries.now) 160 c.if-entries-lt-ENTRY_NUMBERS.false, lt-ltb (length a.extensions.now) 16 c.if-extensions-lt-EXTENSION_NUMBERS.true) in record {
      answer = c.refused-then-extensions-lt-EXTENSION_NUMBERS.ensures ∙ sym (ap (λ (l : Left). l.answer) same);
      rows = sym (ap (λ (l : Left). l.entries) same);
      beside = sym (ap (λ (l : Left). l.extensions) same);
    }

pub returns : goal.returns
returns c =
    let a = c.args in
    let same : set_laid a.read a.entries.now a.extensions.now ≡ laid_both a.read a.entries.now a.extensions.now =
    rw (le-ltb (length a.entries.now) 160 c.if-entries-lt-ENTRY_NUMBERS.false, le-ltb (length a.extensions.now) 16 c.if-extensions-lt-EXTENSION_NUMBERS.false) in record {
      answer = c.accepted.ensures ∙ sym (ap (λ (l : Left). l.answer) same);
      rows = c.lay_entries.ensures ∙ sym (ap (λ (l : Left). l.entries) same);
      beside = c.lay_extensions.ensures ∙ sym (ap (λ (l : Left). l.extensions) same);
    }
