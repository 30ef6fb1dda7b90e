-- What a raise adds to the list of its caller.
use Rattle.std.proofs.Common.{◌≡◌, ◌∙◌, ℕ, ◌+◌, ◌*◌, ◌<◌, ◌≤◌, ◌^◌, cond, length, length-append, map, List, [], ◌∷◌, ◌++◌, append-nil, append_assoc, Option, Some, None, option_to_list, Result, Ok, sym, refl, ap, arith}
use Rattle.std.proofs.lemmas.List.{map-append}
use Rattle.std.proofs.lemmas.Nat.{from_be_bytes-to_be_bytes_8}
use Rattle.std.specs.Int.{w64, to_be_bytes}
use Rattle.std.specs.List.{AllByRecursion}
use Rattle.sled_nodes.specs.Order.{Key}
use Rattle.sled_model.specs.declared.call.Call.{Call}
use Rattle.sled_model.specs.declared.call.Call.TheVariants.{Get, CompareAndSwap}
use Rattle.sled_model.specs.declared.outcome.Outcome.{Outcome}
use Rattle.sled_model.specs.declared.outcome.Outcome.TheVariants as outcome
use Rattle.sled_model.specs.declared.reply.CompareAndSwapError.{CompareAndSwapError}
use Rattle.sled_model.specs.declared.reply.Reply.{Reply}
use Rattle.sled_model.specs.declared.reply.Reply.TheVariants as told
use Rattle.sled_model.specs.declared.tree.Tree.{Tree}
use Rattle.tree_laws.proofs.Pairs.{each_append}
use Rattle.machine_shared.specs.Made.{MadeValue, PointMade}
use Rattle.machine_shared.specs.Notes.{noted_of}
use Rattle.example_parts.specs.Counters.{number_in}
use Rattle.example_shared.specs.Raising.{swapped_by, swapped, is_part, swap_wrote, Raises, calls_made, overtaken_by}
use Rattle.example_shared.specs.declared.raising.Raised.{Raised}
use Rattle.example_shared.specs.declared.raising.Raised.TheVariants as raised
use Rattle.example_shared.proofs.Keys.{at_itself}

-- ---- lists

swapped_on : (tree key : Key) (xs ys : List MadeValue) → swapped tree key (xs ++ ys) ≡ swapped tree key xs ++ swapped tree key ys
swapped_on tree key [] ys = refl
swapped_on tree key (x ∷ xs) ys = ap (λ l. swapped_by tree key x ++ l) (swapped_on tree key xs ys) ∙ sym (append_assoc (swapped_by tree key x) (swapped tree key xs) (swapped tree key ys))

-- ---- raises

-- nothing was made yet
pub raises_none : (tree : Tree) (key : Key) (made : List MadeValue) → Raises tree key None made made
raises_none tree key made = record { added = []; adds = sym (append-nil made); parts = tt; wrote = refl }

-- what goes on after parts that wrote nothing
pub raises_on : (tree : Tree) (key : Key) (n : Option ℕ) (a b c : List MadeValue) → Raises tree key None a b → Raises tree key n b c → Raises tree key n a c
raises_on tree key n a b c r s = record {
  added = r.added ++ s.added;
  adds = s.adds ∙ ap (λ l. l ++ s.added) r.adds ∙ append_assoc a r.added s.added;
  parts = each_append (is_part tree key) r.added s.added r.parts s.parts;
  wrote =
      ap (map (λ (s : Option Key × Option Key). number_in s.1)) (swapped_on tree.name key r.added s.added)
      ∙ map-append (λ (s : Option Key × Option Key). number_in s.1) (swapped tree.name key r.added) (swapped tree.name key s.added)
      ∙ ap (λ l. l ++ map (λ (s : Option Key × Option Key). number_in s.1) (swapped tree.name key s.added)) r.wrote
      ∙ s.wrote;
}

-- a read
read_parts : (tree : Tree) (key : Key) (o : Outcome) → AllByRecursion (is_part tree key) (noted_of o tree (Get key))
read_parts tree key (outcome.Decided reply) = ((refl, refl), tt)
read_parts tree key o = tt

read_swaps : (tree : Tree) (key : Key) (o : Outcome) → map (λ (s : Option Key × Option Key). number_in s.1) (swapped tree.name key (noted_of o tree (Get key))) ≡ []
read_swaps tree key (outcome.Decided reply) = refl
read_swaps tree key o = refl

pub raises_read : (tree : Tree) (key : Key) (o : Outcome) (made more : List MadeValue) → more ≡ made ++ noted_of o tree (Get key) → Raises tree key None made more
raises_read tree key o made more adds = record { added = noted_of o tree (Get key); adds = adds; parts = read_parts tree key o; wrote = read_swaps tree key o }

-- a swap for the next number
module _ (tree : Tree) (key : Key) (stood : Option Key) (n : ℕ) (next : n ≡ number_in stood + 1) (fits : n < 2 ^ 64) where
  pub read_back : number_in (Some (to_be_bytes w64 n)) ≡ n
  read_back = from_be_bytes-to_be_bytes_8 n fits

  swap_parts : (o : Outcome) → AllByRecursion (is_part tree key) (noted_of o tree (CompareAndSwap key stood (Some (to_be_bytes w64 n))))
  swap_parts (outcome.Decided reply) = ((refl, refl, read_back ∙ next), tt)
  swap_parts o = tt

  swap_numbers : (o : Outcome) → map (λ (s : Option Key × Option Key). number_in s.1) (swapped tree.name key (noted_of o tree (CompareAndSwap key stood (Some (to_be_bytes w64 n))))) ≡ option_to_list (swap_wrote o n)
  swap_numbers (outcome.Decided (told.Swapped (Ok done))) =
      ap (λ b. map (λ (s : Option Key × Option Key). number_in s.1) (cond b ((stood, Some (to_be_bytes w64 n)) ∷ []) [] ++ [])) (at_itself tree.name key tree key refl refl)
      ∙ ap (λ k. k ∷ []) read_back
  swap_numbers (outcome.Decided reply) = refl
  swap_numbers o = refl

  pub raises_swap : (o : Outcome) (made more : List MadeValue) → more ≡ made ++ noted_of o tree (CompareAndSwap key stood (Some (to_be_bytes w64 n))) → Raises tree key (swap_wrote o n) made more
  raises_swap o made more adds = record { added = noted_of o tree (CompareAndSwap key stood (Some (to_be_bytes w64 n))); adds = adds; parts = swap_parts o; wrote = swap_numbers o }

-- what wrote nothing
pub undecided : (o : Outcome) (n : ℕ) → ((reply : Reply) → o ≡ outcome.Decided reply → ⊥) → None ≡ swap_wrote o n
undecided (outcome.Decided reply) n off = absurd (off reply refl)
undecided o n off = refl

pub not_swapped : (reply : Reply) (n : ℕ) → ((answer : Result (Unit {0}) CompareAndSwapError) → reply ≡ told.Swapped answer → ⊥) → None ≡ swap_wrote (outcome.Decided reply) n
not_swapped (told.Swapped answer) n off = absurd (off answer refl)
not_swapped reply n off = refl

-- ---- how many calls were made

equal_is_most : (m n : ℕ) → m ≡ n + 1 → m ≤ n + 1
equal_is_most m n e = omega arith

none_is_most : (m n : ℕ) → m ≡ n → m ≤ n + 1
none_is_most m n e = omega arith

two_more : (a b c : ℕ) → b ≡ a + 1 → c ≡ b + 1 → c ≡ a + 2
two_more a b c e f = omega arith

two_at_most : (a b c : ℕ) → b ≡ a + 1 → c ≤ b + 1 → c ≤ a + 2
two_at_most a b c e f = omega arith

within : (a b c k n : ℕ) → b ≡ a + 2 * k → k < n → c ≤ b + 2 → c ≤ a + 2 * n
within a b c k n e l f = omega arith

pub one_more : (tree : Tree) (call : Call) (reply : Reply) (made more : List MadeValue) → more ≡ made ++ PointMade tree call reply ∷ [] → length more ≡ length made + 1
one_more tree call reply made more adds = ap length adds ∙ length-append made (PointMade tree call reply ∷ [])

pub one_at_most : (o : Outcome) (tree : Tree) (call : Call) (made more : List MadeValue) → more ≡ made ++ noted_of o tree call → length more ≤ length made + 1
one_at_most (outcome.Decided reply) tree call made more adds = equal_is_most (length more) (length made) (one_more tree call reply made more adds)
one_at_most o tree call made more adds = none_is_most (length more) (length made) (ap length (adds ∙ append-nil made))

-- of a swap
pub stopped : (o p : Outcome) → overtaken_by o (raised.Stopped p)
stopped (outcome.Decided reply) p = tt
stopped o p = tt

pub swap_calls : (r : Raised) (o : Outcome) (tree : Tree) (call : Call) (made more : List MadeValue) → overtaken_by o r → more ≡ made ++ noted_of o tree call → calls_made r 1 made more
swap_calls raised.Overtaken (outcome.Decided reply) tree call made more h adds = one_more tree call reply made more adds
swap_calls raised.Overtaken o tree call made more h adds = absurd h
swap_calls r o tree call made more h adds = one_at_most o tree call made more adds

-- of an attempt
pub calls_after : (r : Raised) (made mid more : List MadeValue) → length mid ≡ length made + 1 → calls_made r 1 mid more → calls_made r 2 made more
calls_after raised.Overtaken made mid more e f = two_more (length made) (length mid) (length more) e f
calls_after r made mid more e f = two_at_most (length made) (length mid) (length more) e f

pub one_of_two : (m n : ℕ) → m ≤ n + 1 → m ≤ n + 2
one_of_two m n l = omega arith

pub just_one_of_two : (m n : ℕ) → m ≡ n + 1 → m ≤ n + 2
just_one_of_two m n e = omega arith

-- of all attempts
pub calls_none : (m : ℕ) → m ≡ m + 2 * 0
calls_none m = omega arith

pub calls_more : (a b c k : ℕ) → b ≡ a + 2 * k → c ≡ b + 2 → c ≡ a + 2 * (k + 1)
calls_more a b c k e f = omega arith

pub calls_all : (a b k n : ℕ) → b ≡ a + 2 * k → k ≡ n → b ≡ a + 2 * n
calls_all a b k n e f = omega arith

pub calls_on : (r : Raised) (made mid more : List MadeValue) (k n : ℕ) → (r ≡ raised.Overtaken → ⊥) → length mid ≡ length made + 2 * k → k < n → calls_made r 2 mid more → calls_made r (2 * n) made more
calls_on raised.Overtaken made mid more k n off e l f = absurd (off refl)
calls_on r made mid more k n off e l f = within (length made) (length mid) (length more) k n e l f
