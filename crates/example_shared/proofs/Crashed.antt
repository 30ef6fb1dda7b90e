-- What a crash leaves of a number that threads raise.
use Rattle.std.proofs.Common.{◌≡◌, ◌∙◌, ℕ, ◌+◌, ◌≤◌, List, [], ◌∷◌, ◌++◌, append-nil, length, length-append, sym, refl, ap, subst, inl, inr, arith}
use Rattle.std.specs.List.{AllByRecursion}
use Rattle.sled_nodes.specs.Order.{Key}
use Rattle.sled_model.specs.Maps.{Maps}
use Rattle.sled_model.specs.declared.tree.Tree.{Tree}
use Rattle.tree_laws.proofs.Pairs.{each_append}
use Rattle.machine_shared.specs.Crashes.{LeadsThrough, LeadsNoMore, LeadsOneMore, through_as, left_by}
use Rattle.machine_shared.specs.History.{makes_as, NoEntries, OneEntry}
use Rattle.machine_shared.specs.Made.{MadeValue, PointMade, WholeMade, TransactionMade, EntryValue}
use Rattle.machine_shared.specs.Wholes.{Flush}
use Rattle.example_parts.specs.Counters.{number_in}
use Rattle.example_shared.specs.Places.{value_at, made_in}
use Rattle.example_shared.specs.Raising.{swapped, swapped_by, IsFlush, IsPartOrFlush, StandsBetween, CrashedLaw}
use Rattle.example_shared.proofs.Swapping.{raised_none, raises_law}
use Rattle.example_shared.proofs.Together.{part_swaps, parts_raise}

by_more : (a m k : ℕ) → m ≡ a + k → a ≤ m
by_more a m k e = omega arith

up_to : (a b c : ℕ) → a ≤ b → b ≤ c → a ≤ c
up_to a b c l k = omega arith

summed : (a m k l n : ℕ) → m ≡ a + k → n ≡ k + l → m + l ≡ a + n
summed a m k l n e f = omega arith

nothing_more : {P : Type 0} {m : MadeValue} {made : List MadeValue} → [] ≡ m ∷ made → P
nothing_more e = cc

abbrev first_of : MadeValue → List MadeValue → MadeValue
first_of other [] = other
first_of other (m ∷ made) = m

abbrev rest_of : List MadeValue → List MadeValue
rest_of [] = []
rest_of (m ∷ made) = made

module _ (tree : Tree) (key : Key) where
  abbrev at : Maps → ℕ
  at maps = number_in (value_at maps tree.name key)

  by_same : (a m : ℕ) → m ≡ a → a ≤ m
  by_same a m e = omega arith

  by_zero : (a : ℕ) → a ≡ a + 0
  by_zero a = omega arith

  -- the number never falls
  rises : (a m : Maps) (v : MadeValue) → makes_as a v m → IsPartOrFlush tree key v → at a ≤ at m
  rises a m v made (inl part) = by_more (at a) (at m) _ (raises_law a m tree.name key (record { by = 0; made = v } ∷ []) (OneEntry made NoEntries) (part_swaps tree key v part, tt) (parts_raise tree key (v ∷ []) (part, tt)))
  rises a m (WholeMade Flush reply) made (inr f) = by_same (at a) (at m) (ap at made.1)
  rises a m v made (inr f) = absurd f

  higher : (low mid high : ℕ) (left : List Maps) → mid ≤ high → AllByRecursion (StandsBetween tree key low mid) left → AllByRecursion (StandsBetween tree key low high) left
  higher low mid high [] l all = tt
  higher low mid high (m ∷ left) l all = ((all.0.0, up_to (at m) mid high all.0.1 l), higher low mid high left l all.1)

  -- the last of them
  stands : (low : ℕ) (m : Maps) → low ≤ at m → AllByRecursion (StandsBetween tree key low (at m)) (m ∷ [])
  stands low m l = ((l, by_same (at m) (at m) refl), tt)

  after_flush : (low : ℕ) (a m : Maps) (v : MadeValue) (through left : List Maps) → IsFlush v → through_as a v through m → low ≤ at m → AllByRecursion (StandsBetween tree key low (at m)) (left_by v through left)
  after_flush low a m (WholeMade Flush reply) through left f led l = subst (λ x. AllByRecursion (StandsBetween tree key low (at m)) x) (sym led) (stands low m l)
  after_flush low a m v through left f led l = absurd f

  after_one : (low : ℕ) (a m : Maps) (v : MadeValue) (through left : List Maps) → makes_as a v m → through_as a v through m → IsPartOrFlush tree key v → low ≤ at a → AllByRecursion (StandsBetween tree key low (at a)) left
      → AllByRecursion (StandsBetween tree key low (at m)) (left_by v through left)
  after_one low a m (PointMade t call reply) through left made led good l all =
      let up = rises a m (PointMade t call reply) made good in
      subst (λ x. AllByRecursion (StandsBetween tree key low (at m)) (left ++ x)) (sym led) (each_append (StandsBetween tree key low (at m)) left (m ∷ []) (higher low (at a) (at m) left up all) (stands low m (up_to low (at a) (at m) l up)))
  after_one low a m (TransactionMade batches stood) through left made led good l all =
      let up = rises a m (TransactionMade batches stood) made good in
      subst (λ x. AllByRecursion (StandsBetween tree key low (at m)) (left ++ x)) (sym led) (each_append (StandsBetween tree key low (at m)) left (m ∷ []) (higher low (at a) (at m) left up all) (stands low m (up_to low (at a) (at m) l up)))
  after_one low a m v through left made led (inl part) l all = absurd part
  after_one low a m v through left made led (inr f) l all = after_flush low a m v through left f led (up_to low (at a) (at m) l (rises a m v made (inr f)))

  goes_on : (low : ℕ) {a b : Maps} {left last : List Maps} {es : List EntryValue} → LeadsThrough a left es b last → AllByRecursion (IsPartOrFlush tree key) (made_in es) → low ≤ at a → AllByRecursion (StandsBetween tree key low (at a)) left
      → AllByRecursion (StandsBetween tree key low (at b)) last
  goes_on low LeadsNoMore all l w = w
  goes_on low (LeadsOneMore {a = a} {m = m} {left = left} {e = e} through made led more) all l w =
      goes_on low more all.1 (up_to low (at a) (at m) l (rises a m e.made made all.0)) (after_one low a m e.made through left made led all.0 l w)

  -- where a crash leaves nothing of before the beginning
  pub from_start : {a b : Maps} {last : List Maps} {es : List EntryValue} → LeadsThrough a (a ∷ []) es b last → AllByRecursion (IsPartOrFlush tree key) (made_in es) → AllByRecursion (StandsBetween tree key (at a) (at b)) last
  from_start {a = a} leads all = goes_on (at a) leads all (by_same (at a) (at a) refl) (stands (at a) a (by_same (at a) (at a) refl))

  -- by how much one entry raises it
  raised_by : (a m : Maps) (v : MadeValue) → makes_as a v m → IsPartOrFlush tree key v → at m ≡ at a + length (swapped_by tree.name key v)
  raised_by a m v made (inl part) =
      raises_law a m tree.name key (record { by = 0; made = v } ∷ []) (OneEntry made NoEntries) (part_swaps tree key v part, tt) (parts_raise tree key (v ∷ []) (part, tt))
      ∙ ap (λ l. at a + length l) (append-nil (swapped_by tree.name key v))
  raised_by a m (WholeMade Flush reply) made (inr f) = raised_none (at m) (at a) (ap at made.1)
  raised_by a m v made (inr f) = absurd f

  earlier : (a m : Maps) (v : MadeValue) (early : List MadeValue) → at m ≡ at a + length (swapped_by tree.name key v) → at m + length (swapped tree.name key early) ≡ at a + length (swapped tree.name key (v ∷ early))
  earlier a m v early e = summed (at a) (at m) _ _ _ e (length-append (swapped_by tree.name key v) (swapped tree.name key early))

  from_flush : (early late : List MadeValue) (flush : MadeValue) {a b : Maps} {left last : List Maps} {es : List EntryValue} → LeadsThrough a left es b last → AllByRecursion (IsPartOrFlush tree key) (made_in es) → made_in es ≡ early ++ flush ∷ late → IsFlush flush
      → AllByRecursion (StandsBetween tree key (at a + length (swapped tree.name key early)) (at b)) last
  from_flush [] late flush LeadsNoMore all split f = nothing_more split
  from_flush (x ∷ early) late flush LeadsNoMore all split f = nothing_more split
  from_flush [] late flush {b = b} {last = last} (LeadsOneMore {a = a} {m = m} {left = left} {e = e} through made led more) all split f =
      let up = rises a m e.made made all.0 in
      subst (λ n. AllByRecursion (StandsBetween tree key n (at b)) last) (by_zero (at a))
      (goes_on (at a) more all.1 up (after_flush (at a) a m e.made through left (subst IsFlush (sym (ap (first_of flush) split)) f) led up))
  from_flush (x ∷ early) late flush {b = b} {last = last} (LeadsOneMore {a = a} {m = m} {e = e} through made led more) all split f =
      subst (λ n. AllByRecursion (StandsBetween tree key n (at b)) last)
      (earlier a m e.made early (raised_by a m e.made made all.0) ∙ ap (λ v. at a + length (swapped tree.name key (v ∷ early))) (ap (first_of x) split))
      (from_flush early late flush more all.1 (ap rest_of split) f)

pub crashed_law : CrashedLaw
crashed_law old new before left tree key history leads all early late flush split f = from_flush tree key early late flush leads all split f
