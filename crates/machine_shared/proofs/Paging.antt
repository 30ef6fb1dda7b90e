-- Pairs of a range, one after the other.
use Rattle.std.proofs.Common.{◌≡◌, ◌∙◌, Bool, true, false, List, [], ◌∷◌, reverse, Option, Some, None, Result, Ok, Err, sym, ap, subst, ◌⊎◌, inl, inr}
use Rattle.std.proofs.lemmas.List.{reverse-append}
use Rattle.sled_nodes.proofs.Basics.{false_true}
use Rattle.sled_nodes.specs.Order.{Key}
use Rattle.sled_nodes.specs.declared.error.Error.{Error}
use Rattle.sled_nodes.specs.declared.error.Error.TheVariants.{NoMemory}
use Rattle.sled_store.specs.Store.{Store}
use Rattle.tree_reads.specs.Ranges.{Coming, TakesFirst, TakesLast, whole}
use Rattle.tree_reads.specs.Walk.{RefusesWalk}
use Rattle.machine_shared.specs.Reads.{pages_walked}
use Rattle.machine_shared.specs.theory.Orders.{Begun, Gives, StopsWalk}

none_left : {P : Type 0} (c : Coming P) → Begun c → (c.pairs ≡ []) ⊎ (c.ended ≡ true) → c.pairs ≡ []
none_left c b (inl e) = e
none_left c b (inr e) = b e

goes_on : {P : Type 0} (old new : Coming P) (rest : List (Key × Key)) → old.ended ≡ false → new ≡ record old { pairs = rest } → Begun new
goes_on {P} old new rest opens is e = false_true (sym opens ∙ sym (ap (λ (c : Coming P). c.ended) is) ∙ e)

-- what stops a walk later stops it from the first, since its pages and its root stay
pub stops_before : {P : Type 0} (store : P → Store) (back : Bool) (first old : Coming P) (e : Error) → old.pages ≡ first.pages → old.root ≡ first.root → StopsWalk store back old e → StopsWalk store back first e
stops_before store back first old e same root stops = subst (λ p. RefusesWalk (pages_walked back) (store p) first.root e) same (subst (λ r. RefusesWalk (pages_walked back) (store old.pages) r e) root stops)

-- .. as want of memory does
pub walk_lacks : {P : Type 0} (store : P → Store) (back : Bool) (c : Coming P) (e : Error) → e ≡ NoMemory → StopsWalk store back c e
walk_lacks store back c e is = subst (RefusesWalk (pages_walked back) (store c.pages) c.root) (sym is) (record { is = tt })

pub first_gives : {P : Type 0} (store : P → Store) (old new : Coming P) (given : Option (Result (Key × Key) Error)) → TakesFirst store whole old given new → Begun old → Gives store false old given new
first_gives store old new None t b = none_left old b t.is.0
first_gives store old new (Some (Err e)) t b = t.is.2
first_gives {P} store old new (Some (Ok pair)) t b = (
  t.is.4 ∙ ap (λ x. x ∷ t.is.3) (sym t.is.2) ∙ ap (λ l. pair ∷ l) (sym (ap (λ (c : Coming P). c.pairs) t.is.5)),
  goes_on old new t.is.3 t.is.0 t.is.5,
  ap (λ (c : Coming P). c.pages) t.is.5,
  ap (λ (c : Coming P). c.root) t.is.5,
)

pub last_gives : {P : Type 0} (store : P → Store) (old new : Coming P) (given : Option (Result (Key × Key) Error)) → TakesLast store whole old given new → Begun old → Gives store true old given new
last_gives store old new None t b = ap reverse (none_left old b t.is.0)
last_gives store old new (Some (Err e)) t b = t.is.2
last_gives {P} store old new (Some (Ok pair)) t b = (
  ap reverse t.is.4 ∙ reverse-append t.is.3 (t.is.1 ∷ []) ∙ ap (λ x. x ∷ reverse t.is.3) (sym t.is.2) ∙ ap (λ l. pair ∷ l) (sym (ap (λ (c : Coming P). reverse c.pairs) t.is.5)),
  goes_on old new t.is.3 t.is.0 t.is.5,
  ap (λ (c : Coming P). c.pages) t.is.5,
  ap (λ (c : Coming P). c.root) t.is.5,
)
