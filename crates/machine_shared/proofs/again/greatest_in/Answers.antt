use Rattle.std.proofs.Common.{◌≡◌, ◌∙◌, ℕ, ◌+◌, ◌<◌, ◌≤◌, All, List, take, get_or, length, sym, subst, arith}
use Rattle.std.proofs.lemmas.List.{take-take, take_all, get_or-take, length-take-le}
use Rattle.std.proofs.lemmas.List.Elements.{All-more, All-weaker, All-take}
use Rattle.machine_shared.specs.declared.entry.Entry.{Entry}
use Rattle.machine_shared.proofs.again.greatest_in.Goals as goal

abbrev UpTo : ℕ → Entry → Type 0
UpTo n e = e.by ≤ n

le_trans : (a b n : ℕ) → a ≤ b → n ≤ a → n ≤ b
le_trans a b n h k = omega (arith, h, k)

shorter : (i : ℕ) (es : List Entry) → i < length es → i < length (take (i + 1) es)
shorter i es h = omega (arith, length-take-le (i + 1) es (omega (arith, h)))

more : (es : List Entry) (i greatest new : ℕ) (x : Entry) → i < length es → x ≡ get_or es i x → greatest ≤ new → x.by ≤ new → All (UpTo greatest) (take i es) → All (UpTo new) (take (i + 1) es)
more es i greatest new x h is le here all = All-more (UpTo new) es i x h (All-weaker (UpTo greatest) (UpTo new) (λ e k. le_trans greatest new e.by le k) (take i es) all) (subst (UpTo new) is here)

pub loop-entry-preserved : goal.loop-entry-preserved
loop-entry-preserved c = (
  more c.args.history.now c.loop-entry.entry-index c.loop-entry.greatest c.greater-greatest.result c.entry-item.result c.loop-entry-test.true c.entry-item.is c.greater-greatest.ensures.first c.greater-greatest.ensures.second c.loop-entry.invariant.0,
  λ n all.
      c.greater-greatest.ensures.least n
      (c.loop-entry.invariant.1 n (subst (λ l. All (UpTo n) l) (take-take c.loop-entry.entry-index (c.loop-entry.entry-index + 1) c.args.history.now (omega arith)) (All-take (UpTo n) c.loop-entry.entry-index (take (c.loop-entry.entry-index + 1) c.args.history.now) all)))
      (subst (UpTo n) (get_or-take (c.loop-entry.entry-index + 1) c.args.history.now c.loop-entry.entry-index c.entry-item.result (omega arith) ∙ sym c.entry-item.is) (all c.loop-entry.entry-index c.entry-item.result (shorter c.loop-entry.entry-index c.args.history.now c.loop-entry-test.true))),
)

pub returns-clause-all : goal.returns-clause-all
returns-clause-all c = subst (λ l. All (λ (e : Entry). e.by ≤ c.loop-entry.greatest) l) (take_all c.loop-entry.entry-index c.args.history.now (omega arith)) c.loop-entry.invariant.0
