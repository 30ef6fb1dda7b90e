-- What a call of an iterator gives.
use Rattle.std.proofs.Common.{◌≡◌, ℕ, suc, ◌+◌, ◌<◌, Bool, true, false, cond, List, [], ◌∷◌, ◌++◌, length, length-append, Option, Some, None, Result, Ok, Err, sym, refl, ap, ◌∙◌, subst, inl, inr, arith}
use Rattle.sled_nodes.proofs.Basics.{false_true, true_false}
use Rattle.std.specs.Prelude.{⊤}
use Rattle.std.specs.Iterator.{MakesProgress}
use Rattle.std.specs.declared.ops.Bound.{Bound}
use Rattle.sled_nodes.specs.Order.{Key}
use Rattle.sled_store.specs.Store.{Store}
use Rattle.sled_nodes.specs.declared.error.Error.{Error}
use Rattle.tree_reads.specs.Walk.{RefusesWalk, once, for_each}
use Rattle.tree_reads.specs.Ranges.{pairs_within, Coming, takes, is_first, is_last, TakesFirst, TakesLast, whole, coming_count}
use Rattle.tree_reads.specs.theory.Ranges.{Advances, Retreats, shown_of}

module _ {P : Type 0} (store : P → Store) (pages : P) (root : ℕ) (all : List (Key × Key)) (lo hi : Bound Key) (ended : Bool) where
  abbrev pub coming : Bound Key → Bound Key → Bool → Coming P
  coming lo hi ended = record { pages = pages; root = root; pairs = pairs_within lo hi all; ended = ended }

  module _ (old : Coming P) (view : coming lo hi ended ≡ old) where
    going : ended ≡ false → old.ended ≡ false
    going e = ap (λ (z : Coming P). z.ended) (sym view) ∙ e

    stopped : (a b : Bound Key) → pairs_within a b all ≡ pairs_within lo hi all → coming a b true ≡ record old { ended = true }
    stopped a b e = ap (λ z. record { pages = pages; root = root; pairs = z; ended = true }) e ∙ ap (λ (z : Coming P). record z { ended = true }) view

    pub next_ended : ended ≡ true → TakesFirst store whole old None (coming lo hi ended)
    next_ended e = record { is = (inr (ap (λ (z : Coming P). z.ended) (sym view) ∙ e), ap (coming lo hi) e ∙ stopped lo hi refl) }

    pub back_ended : ended ≡ true → TakesLast store whole old None (coming lo hi ended)
    back_ended e = record { is = (inr (ap (λ (z : Coming P). z.ended) (sym view) ∙ e), ap (coming lo hi) e ∙ stopped lo hi refl) }

    pub next_none : (new : Bound Key) → Advances all lo hi None new → TakesFirst store whole old None (coming new hi true)
    next_none new a = record { is = (inl (ap (λ (z : Coming P). z.pairs) (sym view) ∙ a.is.0), stopped new hi (ap (λ b. pairs_within b hi all) a.is.1)) }

    pub back_none : (new : Bound Key) → Retreats all lo hi None new → TakesLast store whole old None (coming lo new true)
    back_none new a = record { is = (inl (ap (λ (z : Coming P). z.pairs) (sym view) ∙ a.is.0), stopped lo new (ap (λ b. pairs_within lo b all) a.is.1)) }

    pub next_some : ended ≡ false → (p : Key × Key) (new : Bound Key) → Advances all lo hi (Some p) new → TakesFirst store whole old (Some (Ok p)) (coming new hi ended)
    next_some e p new a = record { is = (going e, p, refl, pairs_within new hi all, ap (λ (z : Coming P). z.pairs) (sym view) ∙ a.is, ap (λ (z : Coming P). record z { pairs = pairs_within new hi all }) view) }

    pub back_some : ended ≡ false → (p : Key × Key) (new : Bound Key) → Retreats all lo hi (Some p) new → TakesLast store whole old (Some (Ok p)) (coming lo new ended)
    back_some e p new a = record { is = (going e, p, refl, pairs_within lo new all, ap (λ (z : Coming P). z.pairs) (sym view) ∙ a.is, ap (λ (z : Coming P). record z { pairs = pairs_within lo new all }) view) }

    pub next_err : ended ≡ false → (e : Error) (new : Bound Key) → RefusesWalk once (store pages) root e × (new ≡ lo) → TakesFirst store whole old (Some (Err e)) (coming new hi true)
    next_err off e new r = record { is = (going off, stopped new hi (ap (λ b. pairs_within b hi all) r.1), subst (λ (z : Coming P). RefusesWalk once (store z.pages) z.root e) view r.0) }

    pub back_err : ended ≡ false → (e : Error) (new : Bound Key) → RefusesWalk for_each (store pages) root e × (new ≡ hi) → TakesLast store whole old (Some (Err e)) (coming lo new true)
    back_err off e new r = record { is = (going off, stopped lo new (ap (λ b. pairs_within lo b all) r.1), subst (λ (z : Coming P). RefusesWalk for_each (store z.pages) z.root e) view r.0) }

  -- the same, by the bound that was lent
  module _ (old : Coming P) (view : coming lo hi ended ≡ old) (off : ended ≡ false) (found : Option (Key × Key)) (p : Key × Key) (is : found ≡ Some p) (from new : Bound Key) where
    pub next_found : from ≡ hi → Advances all lo from found new → TakesFirst store whole old (Some (Ok p)) (coming new hi ended)
    next_found same a = next_some old view off p new (subst (λ b. Advances all lo b (Some p) new) same (subst (λ z. Advances all lo from z new) is a))

    pub back_found : (low : Bound Key) → low ≡ lo → from ≡ lo → Retreats all from hi found new → TakesLast store whole old (Some (Ok p)) (coming low new ended)
    back_found low still same a = subst (λ b. TakesLast store whole old (Some (Ok p)) (coming b new ended)) (sym still) (back_some old view off p new (subst (λ b. Retreats all b hi (Some p) new) same (subst (λ z. Retreats all from hi z new) is a)))

-- what is shown of the pair is given
takes_shown : {P A : Type 0} (store : P → Store) (splits : List (Key × Key) → Key × Key → List (Key × Key) → Type 0) (shows : Key × Key → A) (of : ℕ → ℕ) (old new : Coming P) (given : Option (Result (Key × Key) Error)) (shown : Option (Result A Error)) → shown ≡ shown_of shows given → takes store splits whole of old given new → takes store splits shows of old shown new
takes_shown store splits shows of old new given shown e t = subst (λ z. takes store splits shows of old z new) (sym e) (go given t)
  where
    go : (given : Option (Result (Key × Key) Error)) → takes store splits whole of old given new → takes store splits shows of old (shown_of shows given) new
    go None t = t
    go (Some (Ok p)) t = (t.0, t.1, ap shows t.2, t.3, t.4, t.5)
    go (Some (Err e)) t = t

pub shows_first : {P A : Type 0} (store : P → Store) (shows : Key × Key → A) (old new : Coming P) (given : Option (Result (Key × Key) Error)) (shown : Option (Result A Error)) → shown ≡ shown_of shows given → TakesFirst store whole old given new → TakesFirst store shows old shown new
shows_first store shows old new given shown e t = record { is = takes_shown store is_first shows once old new given shown e t.is }

pub shows_last : {P A : Type 0} (store : P → Store) (shows : Key × Key → A) (old new : Coming P) (given : Option (Result (Key × Key) Error)) (shown : Option (Result A Error)) → shown ≡ shown_of shows given → TakesLast store whole old given new → TakesLast store shows old shown new
shows_last store shows old new given shown e t = record { is = takes_shown store is_last shows for_each old new given shown e t.is }

abbrev count_of : (ended : Bool) (n : ℕ) → ℕ
count_of ended n = cond ended 0 (n + 1)

fewer : (a b : Bool) (m n : ℕ) → a ≡ false → b ≡ false → n ≡ suc m → count_of b m < count_of a n
fewer true b m n e f g = true_false e
fewer false true m n e f g = true_false f
fewer false false m n e f g = less m n g
  where
    less : (m n : ℕ) → n ≡ suc m → m + 1 < n + 1
    less m n g = omega arith

over : (a b : Bool) (m n : ℕ) → a ≡ false → b ≡ true → count_of b m < count_of a n
over true b m n e f = true_false e
over false true m n e f = less n
  where
    less : (n : ℕ) → 0 < n + 1
    less n = omega arith
over false false m n e f = false_true f

one_more : (xs : List (Key × Key)) (p : Key × Key) → length (xs ++ p ∷ []) ≡ suc (length xs)
one_more xs p = length-append xs (p ∷ []) ∙ one (length xs)
  where
    one : (a : ℕ) → a + 1 ≡ suc a
    one a = omega arith

takes_progress : {P A : Type 0} (store : P → Store) (splits : List (Key × Key) → Key × Key → List (Key × Key) → Type 0) (shows : Key × Key → A) (of : ℕ → ℕ) → ((all rest : List (Key × Key)) (p : Key × Key) → splits all p rest → length all ≡ suc (length rest)) → (old new : Coming P) (given : Option (Result A Error)) → takes store splits shows of old given new → MakesProgress (λ _. ⊤) coming_count old given new
takes_progress {P = P} store splits shows of one old new None t = record { on = λ f. tt; keeps = tt; rests = λ f. tt }
takes_progress {P = P} store splits shows of one old new (Some (Ok x)) t = record {
  on = λ f. (tt, tt, fewer old.ended new.ended (length new.pairs) (length old.pairs) t.0 (ap (λ (z : Coming P). z.ended) t.5 ∙ t.0) (one old.pairs t.3 t.1 t.4 ∙ ap (λ (z : Coming P). suc (length z.pairs)) (sym t.5)));
  keeps = tt;
  rests = λ f. tt;
}
takes_progress {P = P} store splits shows of one old new (Some (Err e)) t = record { on = λ f. (tt, tt, over old.ended new.ended (length new.pairs) (length old.pairs) t.0 (ap (λ (z : Coming P). z.ended) t.1)); keeps = tt; rests = λ f. tt }

pub first_progress : {P A : Type 0} (store : P → Store) (shows : Key × Key → A) (old new : Coming P) (given : Option (Result A Error)) → TakesFirst store shows old given new → MakesProgress (λ _. ⊤) coming_count old given new
first_progress store shows old new given t = takes_progress store is_first shows once (λ all rest p e. ap length e) old new given t.is

pub last_progress : {P A : Type 0} (store : P → Store) (shows : Key × Key → A) (old new : Coming P) (given : Option (Result A Error)) → TakesLast store shows old given new → MakesProgress (λ _. ⊤) coming_count old given new
last_progress store shows old new given t = takes_progress store is_last shows for_each (λ all rest p e. ap length e ∙ one_more rest p) old new given t.is
