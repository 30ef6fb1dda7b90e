-- What whole calls add to the list of their caller, told by their outcomes alone.
use Rattle.std.proofs.Common.{◌≡◌, ◌≢◌, ◌∙◌, ℕ, List, ◌++◌, append-nil, refl, sym, ap, subst, inl, inr}
use Rattle.sled_nodes.specs.declared.error.Error.{Error}
use Rattle.sled_nodes.specs.declared.error.Error.TheVariants.{NoMemory}
use Rattle.sled_store.specs.Store.{Store}
use Rattle.sled_model.specs.Maps.{Maps, Merge}
use Rattle.sled_model.specs.Transition.{Configuration, transition_as, kind_of, InParts}
use Rattle.sled_model.specs.declared.call.Whole.{Whole}
use Rattle.sled_model.specs.declared.call.Whole.TheVariants.{Clear, Import}
use Rattle.sled_model.specs.declared.outcome.Outcome.{Outcome}
use Rattle.sled_model.specs.declared.outcome.Outcome.TheVariants as outcome
use Rattle.sled_model.specs.declared.outcome.Step.TheVariants as step
use Rattle.sled.specs.Values.{DbValue}
use Rattle.machine_alone.specs.Kept.{counts_as, kept_of_whole}
use Rattle.machine_alone.specs.Values.{MachineValue}
use Rattle.machine_shared.specs.Made.{EntryValue, MadeValue, whole_value}
use Rattle.machine_shared.specs.WholeNotes.{noted_with, ComesToWhole, NotesWhole, IsAnswer, AddsWhole}
use Rattle.machine_shared.proofs.WholeTests.{refused_kept}

-- a refused call that did no part adds nothing
pub adds_refused : (w : Whole) (x : Error) (made : List MadeValue) → AddsWhole w (outcome.Refused x) made made
adds_refused w x made = record { answers = tt; number = 0; parts = λ h. refl; adds = sym (append-nil made) ∙ ap (λ k. made ++ noted_with (whole_value w) k 0) (sym (refused_kept w x)) }

no_parts : {P M : Type 0} (store : P → Store) (meant : M → Merge) (a b : DbValue P M) (w : Whole) (o : Outcome) (n : ℕ) → counts_as store meant a w o n b → kind_of w ≢ InParts → n ≡ 0
no_parts store meant a b (Clear tree) o n c h = absurd (h refl)
no_parts store meant a b (Import collections) o n c h = absurd (h refl)
no_parts store meant a b other o n c h = c

answers : (a b : Configuration) (w : Whole) (o : Outcome) (maps : List Maps) → transition_as a (step.Whole w) o b maps → IsAnswer o
answers a b w (outcome.Decided reply) maps t = tt
answers a b w (outcome.Refused x) maps t = tt
answers a b w other maps t = absurd t

came : {P M : Type 0} (store : P → Store) (number : P → ℕ) (meant : M → Merge) (a b : MachineValue P M) (w : Whole) (o : Outcome) (made noted : List MadeValue) → ComesToWhole store number meant a w o b noted → AddsWhole w o made (made ++ noted)
came store number meant a b w o made noted (inl d) = record { answers = answers _ _ w o d.step.step.maps d.step.step.step.is; number = d.number; parts = no_parts store meant a.db b.db w o d.number d.counts.is; adds = ap (λ l. made ++ l) d.notes }
came store number meant a b w o made noted (inr c) = record { answers = subst IsAnswer (sym c.refused) tt; number = 0; parts = λ h. refl; adds = ap (λ l. made ++ l) (c.none ∙ sym (ap (λ k. noted_with (whole_value w) k 0) (ap (kept_of_whole w) c.refused ∙ refused_kept w NoMemory))) }

pub whole_adds : {P M : Type 0} (store : P → Store) (number : P → ℕ) (meant : M → Merge) (a b : MachineValue P M) (history longer : List EntryValue) (n : ℕ) (made more : List MadeValue) (w : Whole) (o : Outcome)
    → NotesWhole store number meant a history n made w o b longer more → AddsWhole w o made more
whole_adds store number meant a b history longer n made more w o t = let r = came store number meant a b w o made t.noted t.comes in record { answers = r.answers; number = r.number; parts = r.parts; adds = t.adds_there ∙ r.adds }
