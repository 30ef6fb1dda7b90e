-- Whole calls, with what is kept of their outcomes.
use Rattle.std.proofs.Common.{◌≡◌, ℕ, Option, sym, refl, ap, subst}
use Rattle.sled_nodes.specs.Order.{Key}
use Rattle.sled_store.specs.Store.{Store}
use Rattle.sled_nodes.specs.declared.error.Error.{Error}
use Rattle.sled_model.specs.Maps.{Merge}
use Rattle.sled_model.specs.Transition.{kind_of}
use Rattle.sled_model.specs.declared.call.Whole.{Whole}
use Rattle.sled_model.specs.declared.call.Whole.TheVariants.{Flush}
use Rattle.sled_model.specs.declared.reply.Reply.{Reply}
use Rattle.sled_model.specs.declared.reply.Reply.TheVariants as told
use Rattle.sled_model.specs.declared.outcome.Outcome.{Outcome}
use Rattle.sled_model.specs.declared.outcome.Outcome.TheVariants as outcome
use Rattle.sled_model.specs.declared.outcome.Step.TheVariants as step
use Rattle.sled_model.specs.declared.tree.Tree.{Tree}
use Rattle.sled.specs.Values.{DbValue, snapshot_of_db}
use Rattle.sled.specs.Direct.{WholeDecided, WholeRefused}
use Rattle.sled.specs.Pops.{end_of, pages_of, pop_of, PopsBySteps, PopRefusedBySteps, GivesUpPop}
use Rattle.sled.specs.declared.whole.Side.{Side}
use Rattle.sled.specs.declared.whole.Side.TheVariants.{Least, Greatest}
use Rattle.machine_alone.specs.Kept.{told_again, counts_as}
use Rattle.machine_alone.specs.theory.Kept.{KeepsWhole}
use Rattle.machine_alone.specs.Sound.{IsMachine}
use Rattle.machine_alone.specs.Step.{MachineStepContract, whole_gives_up, way_of_whole}
use Rattle.machine_alone.specs.Values.{MachineValue}
use Rattle.machine_alone.proofs.Wholes.{IsOther, whole_decided, whole_refused}

again_refused : (w : Whole) (x : Error) → told_again w (outcome.Refused x) ≡ outcome.Refused x
again_refused Flush x = refl
again_refused other x = refl

module _ {P M K : Type 0} (store : P → Store) (number : P → ℕ) (meant : M → Merge) (kept : Outcome → K) (inside old : MachineValue P M) (e : inside ≡ old) (im : IsMachine (snapshot_of_db store inside.db) inside.flights inside.slots_given) (w : Whole) (off : IsOther (kind_of w)) (db : DbValue P M) where
  pub keeps_decided : (reply : Reply) (k : K) (count : ℕ) → WholeDecided store meant inside.db w reply db → way_of_whole store meant inside.db w (outcome.Decided reply) db → k ≡ kept (told_again w (outcome.Decided reply)) → counts_as store meant inside.db w (outcome.Decided reply) count db
      → KeepsWhole store number meant kept old w (outcome.Decided reply, k, count) (record inside { db = db })
  keeps_decided reply k count d way copies parts = record {
    step = whole_decided store number meant inside old e im w off db reply d way;
    copies = copies;
    parts = record { is = subst (λ (z : MachineValue P M). counts_as store meant z.db w (outcome.Decided reply) count db) e parts };
  }

  pub told_decided : (told : Outcome × K × ℕ) (reply : Reply) (count : ℕ) → told ≡ (outcome.Decided reply, kept (outcome.Decided reply), count) → WholeDecided store meant inside.db w reply db → way_of_whole store meant inside.db w (outcome.Decided reply) db
      → told_again w (outcome.Decided reply) ≡ outcome.Decided reply → counts_as store meant inside.db w (outcome.Decided reply) count db → KeepsWhole store number meant kept old w told (record inside { db = db })
  told_decided told reply count is d way again parts = subst (λ z. KeepsWhole store number meant kept old w z (record inside { db = db })) (sym is) (keeps_decided reply _ count d way (sym (ap kept again)) parts)

  pub told_refused : (told : Outcome × K × ℕ) (x : Error) (count : ℕ) → told ≡ (outcome.Refused x, kept (outcome.Refused x), count) → WholeRefused store meant inside.db w x db → whole_gives_up store meant inside.db w x → way_of_whole store meant inside.db w (outcome.Refused x) db
      → counts_as store meant inside.db w (outcome.Refused x) count db → KeepsWhole store number meant kept old w told (record inside { db = db })
  told_refused told x count is d up way parts = subst (λ z. KeepsWhole store number meant kept old w z (record inside { db = db })) (sym is) (record {
    step = whole_refused store number meant inside old e im w off db x d up way;
    copies = sym (ap kept (again_refused w x));
    parts = record { is = subst (λ (z : MachineValue P M). counts_as store meant z.db w (outcome.Refused x) count db) e parts };
  })

-- a step, of whose outcome this is kept
pub keeps_step : {P M K : Type 0} (store : P → Store) (number : P → ℕ) (meant : M → Merge) (kept : Outcome → K) (old new : MachineValue P M) (w : Whole) (o : Outcome) (told : Outcome × K × ℕ) → told ≡ (o, kept o, 0) → MachineStepContract store number meant old (step.Whole w) o new
    → told_again w o ≡ o → counts_as store meant old.db w o 0 new.db → KeepsWhole store number meant kept old w told new
keeps_step store number meant kept old new w o told is c again parts = subst (λ z. KeepsWhole store number meant kept old w z new) (sym is) (record { step = c; copies = sym (ap kept again); parts = record { is = parts } })

-- ---- a pop at either end

pub pop_other : (side : Side) (tree : Tree) → IsOther (kind_of (pop_of side tree))
pop_other Least tree = tt
pop_other Greatest tree = tt

pub pop_again : (side : Side) (tree : Tree) (o : Outcome) → told_again (pop_of side tree) o ≡ o
pop_again Least tree o = refl
pop_again Greatest tree o = refl

module _ {P M : Type 0} (store : P → Store) (meant : M → Merge) (old : DbValue P M) (tree : Tree) (new : DbValue P M) where
  pub pop_counts : (side : Side) (o : Outcome) → counts_as store meant old (pop_of side tree) o 0 new
  pop_counts Least o = refl
  pop_counts Greatest o = refl

  pub pop_way : (side : Side) (found : Option (Key × Key)) → PopsBySteps store meant old tree (end_of side) found new → way_of_whole store meant old (pop_of side tree) (outcome.Decided (told.Pair found)) new
  pop_way Least found s = (found, refl, s)
  pop_way Greatest found s = (found, refl, s)

  pub pop_stops : (side : Side) (e : Error) → PopRefusedBySteps store meant old tree (end_of side) (pages_of side) e new → way_of_whole store meant old (pop_of side tree) (outcome.Refused e) new
  pop_stops Least e s = s
  pop_stops Greatest e s = s

pub pop_ends : {P M : Type 0} (store : P → Store) (meant : M → Merge) (old : DbValue P M) (tree : Tree) (side : Side) (e : Error) → GivesUpPop store meant old tree (end_of side) (pages_of side) e → whole_gives_up store meant old (pop_of side tree) e
pop_ends store meant old tree Least e g = g
pop_ends store meant old tree Greatest e g = g
