use Rattle.std.proofs.Common.{◌≡◌, ◌∙◌, ℕ, ◌+◌, ◌≤◌, ◌<◌, All, List, refl, sym, ap, subst, arith}
use Rattle.std.proofs.lemmas.List.{get_or-map, length-map}
use Rattle.std.proofs.lemmas.List.Elements.{All-map}
use Rattle.machine_shared.specs.Again.{NoneAbove}
use Rattle.machine_shared.specs.Made.{EntryValue, entry_value, entry_values}
use Rattle.machine_shared.specs.Values.{StateValue}
use Rattle.machine_shared.specs.declared.entry.Entry.{Entry}
use Rattle.machine_shared.proofs.db.Db.share_again.Goals as goal

-- the same of the entries themselves
of_values : (number : ℕ) (es : List Entry) → NoneAbove (entry_values es) number → All (λ (e : Entry). e.by ≤ number) es
of_values number es none = λ i d h. subst (λ (e : EntryValue). e.by ≤ number) (get_or-map entry_value es i d (entry_value d) h) (none i (entry_value d) (omega (arith, h, length-map es entry_value)))

few_left : (before number callers : ℕ) → 18446744073709551615 < callers + before → before ≤ number → 18446744073709551616 ≤ number + callers
few_left before number callers h k = omega (arith, h, k)

pub returns-then-callers-before-clause-err : goal.returns-then-callers-before-clause-err
returns-then-callers-before-clause-err g c = record {
  is = (
    refl,
    λ number none. few_left c.greatest_in-before.result number c.args.callers (omega (arith, c.if-callers-before.true))
        (c.greatest_in-before.ensures.least number (of_values number c.history.result.now (subst (λ es. NoneAbove es number) (sym c.history.ensures.entries) none))),
  );
}

pub returns-clause-ok : goal.returns-clause-ok
returns-clause-ok g c =
    record {
      callers_are = refl;
      none = refl;
      behind = subst (λ es. NoneAbove es c.greatest_in-before.result) c.history.ensures.entries (All-map (λ (e : EntryValue). e.by ≤ c.greatest_in-before.result) entry_value c.history.result.now c.greatest_in-before.ensures.all);
      next = λ number none. c.greatest_in-before.ensures.least number (of_values number c.history.result.now (subst (λ es. NoneAbove es number) (sym c.history.ensures.entries) none));
      opening = c.in-Some.ensures ∙ ap (λ (s : StateValue _ _). s.opening) c.state.view_is;
    }
