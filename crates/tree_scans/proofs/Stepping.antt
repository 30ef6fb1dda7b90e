-- What a step of a scan does, from what it comes to at its leaf.
use Rattle.std.proofs.Common.{◌≡◌, ℕ, zero, suc, ◌+◌, true, false, Bool, List, [], ◌∷◌, drop, Option, Some, None, sym, refl, ap, ◌∙◌, subst}
use Rattle.std.specs.Prelude.{slice_get}
use Rattle.std.specs.declared.ops.Bound.{Bound}
use Rattle.sled_nodes.specs.Order.{Key}
use Rattle.sled_nodes.specs.Node.{pairs}
use Rattle.sled_nodes.specs.Ranges.{Range, pairs_in}
use Rattle.sled_nodes.specs.declared.error.Error.{Error}
use Rattle.sled_nodes.specs.declared.error.Error.TheVariants.{NoMemory}
use Rattle.sled_store.specs.Store.{Store}
use Rattle.sled_model.specs.State.{range_of}
use Rattle.sled_model.specs.Scan.{is_read}
use Rattle.sled_model.specs.declared.call.Call.{Call}
use Rattle.sled_model.specs.declared.reply.Reply.TheVariants as reply
use Rattle.tree_laws.specs.declared.flight.Giving.{Giving}
use Rattle.tree_laws.specs.declared.flight.Stage.{Stage}
use Rattle.tree_laws.specs.declared.flight.Stage.TheVariants as stage
use Rattle.sled_tree.specs.Stages.{IsOnItsWay}
use Rattle.sled_tree.specs.declared.flight.Aim.{Aim}
use Rattle.sled_tree.specs.declared.flight.Aim.TheVariants.{Own, At}
use Rattle.sled_tree.specs.declared.flight.InFlight.{InFlight}
use Rattle.sled_tree.specs.declared.flight.Went.{Went}
use Rattle.sled_tree.specs.declared.flight.Went.TheVariants.{Yielded, Decided, Refused}
use Rattle.tree_scans.specs.Scans.{ScanStep, Gives, Ends, GoesOn, Walks, Lacks, range_from, range_behind, rest_at, rest_in, rest_of, waiting_at, waiting_in, waiting_of, aim_behind}
use Rattle.tree_scans.specs.theory.Scans.{IsRangeOf, ComesBehind, ComesTo}
use Rattle.tree_scans.specs.declared.scan.AtLeaf.{AtLeaf}
use Rattle.tree_scans.specs.declared.scan.AtLeaf.TheVariants as leaf

-- the element at a place is the first of those from there on
pub drop_some : {X : Type 0} (xs : List X) (n : ℕ) (x : X) → slice_get xs n ≡ Some x → drop n xs ≡ x ∷ drop (suc n) xs
drop_some [] n x e = cc
drop_some (y ∷ ys) zero x e = cc
drop_some (y ∷ ys) (suc n) x e = drop_some ys n x e

pub drop_none : {X : Type 0} (xs : List X) (n : ℕ) → slice_get xs n ≡ None → drop n xs ≡ []
drop_none [] zero e = refl
drop_none [] (suc n) e = refl
drop_none (y ∷ ys) zero e = cc
drop_none (y ∷ ys) (suc n) e = drop_none ys n e

-- a range is read the same way from wherever the scan goes on
pub same_way : (aim : Aim) (r : Range) → (range_from aim r).back ≡ r.back
same_way Own r = refl
same_way (At bound) r = at r.lo r.hi r.back
  where
    at : (lo hi : Bound Key) (back : Bool) → (range_from (At bound) (record { lo = lo; hi = hi; back = back })).back ≡ back
    at lo hi true = refl
    at lo hi false = refl

-- what comes at the leaf, from the pair at the place of those within the range
module _ (call : Call) (aim : Aim) (a : Giving) (from : Range) (range : IsRangeOf call aim from) where
  pub pair_comes : (key value : Key) (given : ℕ) → given ≡ a.given + 1 → Some (key, value) ≡ slice_get (pairs_in from (pairs a.leaf.node.content)) a.given → ComesTo call aim a (record a { given = given }) (leaf.Pair key value)
  pair_comes key value given e found = record { from = from; range = range; is = (rw e refl, drop (suc a.given) (pairs_in from (pairs a.leaf.node.content)), drop_some _ a.given (key, value) (sym found)) }

  pub end_comes : (next : AtLeaf) → None ≡ slice_get (pairs_in from (pairs a.leaf.node.content)) a.given → ComesBehind a.leaf.node from next → ComesTo call aim a a next
  end_comes (leaf.Pair key value) found b = absurd b.is
  end_comes leaf.End found b = record { from = from; range = range; is = (refl, drop_none _ a.given (sym found), b) }
  end_comes (leaf.GoesOn on) found b = record { from = from; range = range; is = (refl, drop_none _ a.given (sym found), b) }

-- what is left and what waits, where the range is known
pub rest_is : (s : Stage) (call : Call) (aim : Aim) (from : Range) → IsRangeOf call aim from → rest_in s aim (range_of call) ≡ rest_at s from
rest_is s call aim from i = rw i.has (ap (rest_at s) i.is)

pub waiting_is : (s : Stage) (call : Call) (aim : Aim) (from : Range) → IsRangeOf call aim from → waiting_in s aim (range_of call) ≡ waiting_at s from
waiting_is s call aim from i = rw i.has (ap (waiting_at s) i.is)

-- none waits on the way to a leaf
pub none_on_its_way : (s : Stage) (aim : Aim) (o : Option Range) → IsOnItsWay s → waiting_in s aim o ≡ []
none_on_its_way s aim None w = refl
none_on_its_way stage.Root aim (Some r) w = refl
none_on_its_way (stage.Walk a) aim (Some r) w = refl
none_on_its_way (stage.Act a) aim (Some r) w = refl
none_on_its_way (stage.Give a) aim (Some r) w = absurd w
none_on_its_way (stage.Split a) aim (Some r) w = refl
none_on_its_way (stage.InstallLeft a) aim (Some r) w = refl
none_on_its_way (stage.Post a) aim (Some r) w = refl
none_on_its_way (stage.Hoist a) aim (Some r) w = refl
none_on_its_way (stage.SwapRoot a) aim (Some r) w = refl
none_on_its_way (stage.Free a) aim (Some r) w = refl
none_on_its_way (stage.Intend a) aim (Some r) w = refl
none_on_its_way (stage.Child a) aim (Some r) w = refl
none_on_its_way (stage.Cap a) aim (Some r) w = refl
none_on_its_way (stage.Seek a) aim (Some r) w = refl
none_on_its_way (stage.Receive a) aim (Some r) w = refl
none_on_its_way (stage.Confirm a) aim (Some r) w = refl

-- a stage that is none of a leaf is on its way
pub on_its_way : (s : Stage) → ((a : Giving) → s ≡ stage.Give a → ⊥) → IsOnItsWay s
on_its_way (stage.Give a) n = absurd (n a refl)
on_its_way stage.Root n = tt
on_its_way (stage.Walk a) n = tt
on_its_way (stage.Act a) n = tt
on_its_way (stage.Split a) n = tt
on_its_way (stage.InstallLeft a) n = tt
on_its_way (stage.Post a) n = tt
on_its_way (stage.Hoist a) n = tt
on_its_way (stage.SwapRoot a) n = tt
on_its_way (stage.Free a) n = tt
on_its_way (stage.Intend a) n = tt
on_its_way (stage.Child a) n = tt
on_its_way (stage.Cap a) n = tt
on_its_way (stage.Seek a) n = tt
on_its_way (stage.Receive a) n = tt
on_its_way (stage.Confirm a) n = tt

module _ (steps : Store → InFlight → Went → Store → InFlight → Type 0) (old : Store) (f : InFlight) where
  module _ (a b : Giving) (here : f.stage ≡ stage.Give a) where
    waits : (from : Range) → IsRangeOf f.job.call f.aim from → waiting_of f ≡ waiting_at (stage.Give a) from
    waits from i = waiting_is f.stage f.job.call f.aim from i ∙ ap (λ s. waiting_at s from) here

    rests : (from : Range) → IsRangeOf f.job.call f.aim from → rest_of f ≡ range_behind a.leaf.node from
    rests from i = rest_is f.stage f.job.call f.aim from i ∙ ap (λ s. rest_at s from) here

    pub lacks : (e : Error) (g : InFlight) → e ≡ NoMemory → ScanStep steps old f (Refused e) old g
    lacks e g n = rw n (Lacks a g here)

    pub gives : (key value : Key) → ComesTo f.job.call f.aim a b (leaf.Pair key value) → ScanStep steps old f (Yielded key value) old (record f { stage = stage.Give b; turns = 0 })
    gives key value c = rw c.is.0 (Gives a key value c.is.1 here (waits c.from c.range ∙ c.is.2))

    pub ends : (g : InFlight) → ComesTo f.job.call f.aim a b leaf.End → ScanStep steps old f (Decided reply.End) old g
    ends g c = Ends g (rw here tt) (waits c.from c.range ∙ c.is.1) (ap is_read (rests c.from c.range) ∙ c.is.2.is)

    pub goes_on : (aim : Aim) (went : Went) (new : Store) (g : InFlight) → ComesTo f.job.call f.aim a b (leaf.GoesOn aim) → (begun : InFlight) → begun ≡ record f { aim = aim; stage = stage.Root } → steps old begun went new g → ScanStep steps old f went new g
    goes_on aim went new g c begun is s = GoesOn a c.range.range went new g here c.range.has (waits c.from c.range ∙ c.is.1) (ap is_read (rests c.from c.range) ∙ c.is.2.is.0)
        (subst (λ z. steps old (record f { aim = z; stage = stage.Root }) went new g) (c.is.2.is.1 ∙ ap (aim_behind a.leaf.node) (ap (λ r. r.back) (sym c.range.is) ∙ same_way f.aim c.range.range)) (subst (λ z. steps old z went new g) is s))

  module _ (root : f.stage ≡ stage.Root) where
    pub ends_at_root : (g : InFlight) → is_read (rest_in stage.Root f.aim (range_of f.job.call)) ≡ true → ScanStep steps old f (Decided reply.End) old g
    ends_at_root g e = Ends g (rw root tt) (none_on_its_way f.stage f.aim (range_of f.job.call) (rw root tt)) (rw root e)

    pub walks_from_root : (went : Went) (new : Store) (g : InFlight) → is_read (rest_in stage.Root f.aim (range_of f.job.call)) ≡ false → steps old f went new g → ScanStep steps old f went new g
    walks_from_root went new g e s = Walks went new g (rw root tt) (λ r. rw root e) s

  pub walks : (went : Went) (new : Store) (g : InFlight) → (f.stage ≡ stage.Root → ⊥) → ((a : Giving) → f.stage ≡ stage.Give a → ⊥) → steps old f went new g → ScanStep steps old f went new g
  walks went new g root give s = Walks went new g (on_its_way f.stage give) (λ r. absurd (root r)) s
