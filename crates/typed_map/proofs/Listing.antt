-- The pairs of an iterator, which are listed one after the other.
use Rattle.std.proofs.Common.{◌≡◌, ◌⊎◌, inl, inr, Bool, true, false, cond, [], ◌∷◌, ◌++◌, Some, None, Result, Ok, Err, sym, refl, ap, ◌∙◌, subst, append_assoc, append-nil}
use Rattle.std.specs.List.{AllByRecursion}
use Rattle.sled_nodes.specs.Order.{Key}
use Rattle.sled_nodes.specs.declared.error.Error.{Error}
use Rattle.sled_store.specs.Store.{Store}
use Rattle.sled_model.specs.Maps.{Map}
use Rattle.tree_reads.specs.Prefixes.{IsBytes}
use Rattle.tree_reads.specs.Ranges.{Coming, TakesFirst, whole}
use Rattle.tree_reads.specs.Walk.{RefusesWalk, once}
use Rattle.typed_map.specs.Typed.{still_given}

-- what is still given where it has not ended, and where it has ended only with no pairs left
pub given_open : {P : Type 0} (c : Coming P) → c.ended ≡ false → still_given c ≡ c.pairs
given_open c e = ap (λ b. cond b [] c.pairs) e

pub given_all : {P : Type 0} (c : Coming P) → (c.ended ≡ true → c.pairs ≡ []) → still_given c ≡ c.pairs
given_all c none = go c.ended c.pairs none
  where
    go : (ended : Bool) (pairs : Map) → (ended ≡ true → pairs ≡ []) → cond ended [] pairs ≡ pairs
    go true pairs none = sym (none refl)
    go false pairs none = refl

-- The loop over an iterator: what was found and what is still given are all that it gave, and the keys that were found are byte strings
pub record Goes {P : Type 0} (first : Coming P) (found : Map) (coming : Coming P) : Type 0 where
  pub is : found ++ still_given coming ≡ still_given first
  pub bytes : AllByRecursion (λ e. IsBytes e.0) found
  pub pages : coming.pages ≡ first.pages
  pub root : coming.root ≡ first.root

all_and : (entry : Key × Key) (found : Map) → AllByRecursion (λ e. IsBytes e.0) found → IsBytes entry.0 → AllByRecursion (λ e. IsBytes e.0) (found ++ entry ∷ [])
all_and entry [] each last = (last, tt)
all_and entry (e ∷ found) each last = (each.0, all_and entry found each.1 last)

pub goes_first : {P : Type 0} (found : Map) (coming : Coming P) → found ≡ [] → Goes coming found coming
goes_first found coming e = record { is = ap (λ m. m ++ still_given coming) e; bytes = subst (λ m. AllByRecursion (λ e. IsBytes e.0) m) (sym e) tt; pages = refl; root = refl }

module _ {P : Type 0} (store : P → Store) (first old new : Coming P) (found : Map) where
  pub goes_on : (given : Result (Key × Key) Error) (entry : Key × Key) (more : Map) → Goes first found old → given ≡ Ok entry → TakesFirst store whole old (Some given) new → IsBytes entry.0 → more ≡ found ++ entry ∷ [] → Goes first more new
  goes_on given entry more g is came bytes pushed =
      let takes : TakesFirst store whole old (Some (Ok entry)) new = subst (λ (r : Result (Key × Key) Error). TakesFirst store whole old (Some r) new) is came in
      let p = takes.is.1 in
      let same : entry ≡ p = takes.is.2 in
      let rest = takes.is.3 in
      let splits : old.pairs ≡ p ∷ rest = takes.is.4 in
      let left : new ≡ record old { pairs = rest } = takes.is.5 in record {
        is =
            ap (λ (c : Coming P). more ++ still_given c) left
            ∙ ap (λ b. more ++ cond b [] rest) takes.is.0
            ∙ ap (λ m. m ++ rest) pushed
            ∙ append_assoc found (entry ∷ []) rest
            ∙ ap (λ (e : Key × Key). found ++ e ∷ rest) same
            ∙ ap (λ pairs. found ++ pairs) (sym splits)
            ∙ ap (λ pairs. found ++ pairs) (sym (given_open old takes.is.0))
            ∙ g.is;
        bytes = subst (λ m. AllByRecursion (λ e. IsBytes e.0) m) (sym pushed) (all_and entry found g.bytes bytes);
        pages = ap (λ (c : Coming P). c.pages) left ∙ g.pages;
        root = ap (λ (c : Coming P). c.root) left ∙ g.root;
      }

  nothing_given : (pairs : Map) (ended : Bool) → (pairs ≡ []) ⊎ (ended ≡ true) → cond ended [] pairs ≡ []
  nothing_given pairs true o = refl
  nothing_given pairs false (inl e) = e
  nothing_given pairs false (inr e) = absurd cc

  pub goes_to_end : Goes first found old → TakesFirst store whole old None new → found ≡ still_given first
  goes_to_end g takes = sym (append-nil found) ∙ ap (λ pairs. found ++ pairs) (sym (nothing_given old.pairs old.ended takes.is.0)) ∙ g.is

  -- it has ended, over the same pages
  pub ends : Goes first found old → TakesFirst store whole old None new → new.ended ≡ true
  ends g takes = ap (λ (c : Coming P). c.ended) takes.is.1

  pub ends_over : Goes first found old → TakesFirst store whole old None new → (new.pages ≡ first.pages) × (new.root ≡ first.root)
  ends_over g takes = (ap (λ (c : Coming P). c.pages) takes.is.1 ∙ g.pages, ap (λ (c : Coming P). c.root) takes.is.1 ∙ g.root)

  pub stops_over : (e : Error) → Goes first found old → TakesFirst store whole old (Some (Err e)) new → (new.pages ≡ first.pages) × (new.root ≡ first.root)
  stops_over e g takes = (ap (λ (c : Coming P). c.pages) takes.is.1 ∙ g.pages, ap (λ (c : Coming P). c.root) takes.is.1 ∙ g.root)

  pub stops : (e : Error) → Goes first found old → TakesFirst store whole old (Some (Err e)) new → RefusesWalk once (store first.pages) first.root e
  stops e g takes = subst (λ r. RefusesWalk once (store first.pages) r e) g.root (subst (λ p. RefusesWalk once (store p) old.root e) g.pages takes.is.2)

  -- the pair that was taken found no place
  pub taken_over : (entry : Key × Key) → Goes first found old → TakesFirst store whole old (Some (Ok entry)) new → (new.pages ≡ first.pages) × (new.root ≡ first.root)
  taken_over entry g takes = (ap (λ (c : Coming P). c.pages) takes.is.5 ∙ g.pages, ap (λ (c : Coming P). c.root) takes.is.5 ∙ g.root)
