-- The walk of a call over a clean path, and its last step.
use native.Mathlib.Omega.{arith}
use Rattle.std.proofs.Common.{◌≡◌, ℕ, ◌+◌, ◌<◌, ◌≤◌, Bool, true, false, List, [], ◌∷◌, ◌++◌, Option, Some, None, Result, Ok, Err, IfOk, IfErr, sym, refl, ap, ◌∙◌, subst}
use Rattle.std.specs.declared.ops.Bound.{Bound}
use Rattle.std.specs.declared.ops.Bound.TheVariants.{Included}
use Rattle.sled_nodes.specs.Among.{IsPointer}
use Rattle.sled_nodes.specs.Order.{Key}
use Rattle.sled_nodes.specs.Node.{count, pointers, value_at}
use Rattle.sled_nodes.specs.declared.error.Error.{Error}
use Rattle.sled_nodes.specs.declared.error.Error.TheVariants.{NoMemory}
use Rattle.sled_nodes.specs.declared.link.Link.{Link}
use Rattle.sled_nodes.specs.declared.node.Data.{Data}
use Rattle.sled_nodes.specs.declared.node.Data.TheVariants.{Leaf, Index}
use Rattle.sled_store.specs.Store.{Store, now, view_of, Changes, version_now}
use Rattle.sled_store.specs.declared.page.View.{View}
use Rattle.sled_model.specs.Answer.{key_of, read_decides_as}
use Rattle.sled_model.specs.Maps.{Merge}
use Rattle.sled_model.specs.State.{IsOnKey}
use Rattle.sled_model.specs.declared.TheConstants.{MAX_LOOPS}
use Rattle.sled_model.specs.declared.call.Call.{Call}
use Rattle.sled_model.specs.declared.call.Call.TheVariants.{Get}
use Rattle.sled_model.specs.declared.decision.Decision.{Decision}
use Rattle.sled_model.specs.declared.decision.Effect.TheVariants as effect
use Rattle.sled_model.specs.declared.reply.Reply.{Reply}
use Rattle.sled_model.specs.declared.reply.Reply.TheVariants.{Value}
use Rattle.sled_model.specs.declared.tree.Tree.{Tree}
use Rattle.tree_laws.specs.Snapshot.{LiesUnder}
use Rattle.tree_laws.specs.Stages.{by_pointer}
use Rattle.tree_laws.specs.declared.flight.Reached.{Reached}
use Rattle.tree_laws.specs.declared.flight.Stage.{Stage}
use Rattle.tree_laws.specs.declared.flight.Stage.TheVariants as stage
use Rattle.sled_tree.specs.Change.{reply_at, decision_at, link_of}
use Rattle.sled_tree.specs.Course.{Course, course_of, aim_of}
use Rattle.sled_tree.specs.theory.Change.{IsLeaf, IsIndex, IsChangeOf}
use Rattle.sled_tree.specs.theory.Descent.{IsClean, Meets, RepairsParent, Settles, way_of}
use Rattle.sled_tree.specs.theory.Linking.{StepsBy, PreparesChange}
use Rattle.sled_tree.specs.theory.Stages.{IsOffWalk}
use Rattle.sled_tree.specs.theory.Walking.{WalksTo, Stays, GoesOn, WalkStep}
use Rattle.sled_tree.specs.declared.act.Change.{Change}
use Rattle.sled_tree.specs.declared.flight.InFlight.{InFlight}
use Rattle.sled_tree.specs.declared.flight.Job.{Job}
use Rattle.sled_tree.specs.declared.flight.Went.{Went}
use Rattle.sled_tree.specs.declared.flight.Went.TheVariants as went
use Rattle.sled_tree.proofs.Descending.{root_met, cursor_met, leads, settles_go, comes_to_act, comes_to_reply, comes_to_nothing}
use Rattle.sled_tree.proofs.Facts.{flies_by_these}
use Rattle.sled_tree.proofs.Known.{aims}
use Rattle.sled_tree.proofs.Linking.{link_done, link_refused}
use Rattle.sled_tree.proofs.Replying.{read_law}
use Rattle.tree_quick.specs.theory.Quick.{as_begun, RunsStraight, IsCleanFor, IsGet, IsRead, FindsLeaf, LeadsToLeaf, comes_to, links_now}
use Rattle.tree_quick.specs.declared.quick.AtLeaf.TheVariants.{Replies, Links}

-- ---- the walk

-- the stage reads this page: it is the root, or a pointer of an index leads to it, the first or a later one
abbrev pub reads_as : Store → Course → Stage → ℕ → Bool → Type 0
reads_as s j stage.Root pid first = ((now s).roots j.tree.name ≡ Some pid) × (first ≡ true)
reads_as s j (stage.Walk a) pid first = (a.cursor ≡ pid) × (parent : View) × (a.reached ≡ by_pointer parent first)
reads_as s j other pid first = ⊥

-- the call in flight comes by so many steps to the one that reads this page
pub record FindsPage (s : Store) (f : InFlight) (pid : ℕ) (first : Bool) (passed : ℕ) : Type 0 where
  pub last : InFlight
  pub walks : WalksTo s f last
  pub job : last.job ≡ f.job
  pub aim : last.aim ≡ f.aim
  pub turns : last.turns ≡ passed
  pub reads : reads_as s (course_of last) last.stage pid first

-- so does each call on this key of a tree with this root
pub record LeadsTo (s : Store) (root : ℕ) (key : Key) (pid : ℕ) (first : Bool) (passed : ℕ) : Type 0 where
  pub is : (tree : Tree) (call : Call) → (now s).roots tree.name ≡ Some root → IsOnKey call → key_of call ≡ key → FindsPage s (as_begun tree call) pid first passed

pub leads_first : (s : Store) (root : ℕ) (key : Key) → LeadsTo s root key root true 0
leads_first s root key = record { is = λ tree call named on_key same. record { last = as_begun tree call; walks = Stays; job = refl; aim = refl; turns = refl; reads = (named, refl) } }

pub leaf_is : (d : Data) (es : List (Key × Key)) → d ≡ Leaf es → IsLeaf d
leaf_is d es is = subst IsLeaf (sym is) tt

-- what has a pointer is an index
pointed : (aim : Bound Key) (d : Data) (c : ℕ) (first : Bool) → IsPointer aim (pointers d) c first → IsIndex d
pointed aim (Leaf es) c first p = none p.last.before p.last.is
  where
    none : (before : List (Key × ℕ)) → [] ≡ before ++ (p.key, c) ∷ p.last.after → ⊥
    none [] e = cc
    none (b ∷ bs) e = cc
pointed aim (Index es) c first p = tt

module _ (s : Store) (pid : ℕ) (first : Bool) (view : View) (read : IsRead s pid view) where
  meets : (j : Course) (a : Stage) → reads_as s j a pid first → Meets s j a view
  meets j stage.Root r = root_met j s j.tree.name ((now s).roots j.tree.name) pid refl refl r.0 (Ok (Some view)) read.is read.readable tt
  meets j (stage.Walk a) r =
      cursor_met j s a (Ok (Some view))
      (subst (λ p. Some view ≡ view_of p ((now s).pages p)) (sym r.0) read.is)
      (subst (λ p. s.is_readable p ≡ true) (sym r.0) read.readable)
      tt
  meets j other r = absurd r

  on_walk : (j : Course) (a : Stage) → reads_as s j a pid first → IsOffWalk a → ⊥
  on_walk j stage.Root r off = off
  on_walk j (stage.Walk a) r off = off
  on_walk j other r off = r

  module _ (key : Key) (c : IsCleanFor key first view.node) where
    settled : (by : Reached) (parent : View) → by ≡ by_pointer parent first → RepairsParent by (count view.node.content) → ⊥
    settled by parent is repairs = go first refl (subst (λ z. RepairsParent z (count view.node.content)) is repairs)
      where
        few : (n : ℕ) → 3 < n → n ≤ 3 → ⊥
        few n more less = omega (arith, more, less)

        go : (b : Bool) → first ≡ b → RepairsParent (by_pointer parent b) (count view.node.content) → ⊥
        go true e r = r
        go false e r = few (count view.node.content) (c.settled e) r.1

    clean : (j : Course) (a : Stage) → j.aim ≡ Included key → reads_as s j a pid first → IsClean j (way_of a) view
    clean j a aim r = record { not_merging = c.is_open.0; free = c.is_open.1; fits = c.fits; settled = go a r; under = subst (λ z. LiesUnder z view.node) (sym aim) c.under }
      where
        go : (a : Stage) → reads_as s j a pid first → RepairsParent (way_of a) (count view.node.content) → ⊥
        go stage.Root r repairs = repairs
        go (stage.Walk a) r repairs = settled a.reached r.1 r.2 repairs
        go other r repairs = absurd r

    module _ (f : InFlight) (aim : aim_of f.job f.aim ≡ Included key) (passed : ℕ) (p : FindsPage s f pid first passed) where
      same_aim : (course_of p.last).aim ≡ Included key
      same_aim = ap (λ (j : Job). aim_of j p.last.aim) p.job ∙ ap (aim_of f.job) p.aim ∙ aim

      is_clean : IsClean (course_of p.last) (way_of p.last.stage) view
      is_clean = clean (course_of p.last) p.last.stage same_aim p.reads

      is_met : Meets s (course_of p.last) p.last.stage view
      is_met = meets (course_of p.last) p.last.stage p.reads

      -- below an index the walk goes on
      goes_down : (child : ℕ) (is_first : Bool) → IsPointer (Included key) (pointers view.node.content) child is_first → passed < MAX_LOOPS → FindsPage s f child is_first (passed + 1)
      goes_down child is_first pointer fits =
          let b : Stage = stage.Walk (record { cursor = child; reached = by_pointer view is_first }) in
          let step : WalkStep s p.last went.Moved (record { job = p.last.job; aim = p.last.aim; stage = b; turns = p.last.turns + 1 }) = record {
            has_turns = subst (λ n. n < MAX_LOOPS) (sym p.turns) fits;
            on_walk = on_walk (course_of p.last) p.last.stage p.reads;
            settles = settles_go s p.last b (leads (course_of p.last) s p.last.stage view is_met child is_first is_clean (pointed _ _ _ _ pointer) (subst (λ z. IsPointer z (pointers view.node.content) child is_first) (sym same_aim) pointer)).is;
          } in record {
            last = record { job = p.last.job; aim = p.last.aim; stage = b; turns = p.last.turns + 1 };
            walks = GoesOn p.walks step;
            job = p.job;
            aim = p.aim;
            turns = ap (λ n. n + 1) p.turns;
            reads = (refl, view, refl);
          }

      -- and a leaf is the one that was looked for
      finds : IsLeaf view.node.content → passed + 1 < MAX_LOOPS → FindsLeaf s f view
      finds leaf fits = record {
        last = p.last;
        walks = p.walks;
        job = p.job;
        fits = subst (λ n. n + 1 < MAX_LOOPS) (sym p.turns) fits;
        on_walk = on_walk (course_of p.last) p.last.stage p.reads;
        leaf = leaf;
        clean = is_clean;
        meets = is_met;
      }

    module _ (root passed : ℕ) (l : LeadsTo s root key pid first passed) where
      aimed : (tree : Tree) (call : Call) → IsOnKey call → key_of call ≡ key → (course_of (as_begun tree call)).aim ≡ Included key
      aimed tree call on_key same = (aims tree call).key on_key ∙ ap Included same

      pub leads_down : (child : ℕ) (is_first : Bool) → IsPointer (Included key) (pointers view.node.content) child is_first → passed < MAX_LOOPS → LeadsTo s root key child is_first (passed + 1)
      leads_down child is_first pointer fits = record {
        is = λ tree call named on_key same. goes_down (as_begun tree call) (aimed tree call on_key same) passed (l.is tree call named on_key same) child is_first pointer fits;
      }

      pub leads_to_leaf : IsLeaf view.node.content → passed + 1 < MAX_LOOPS → LeadsToLeaf s root key view
      leads_to_leaf leaf fits = record {
        is = λ tree call named on_key same. finds (as_begun tree call) (aimed tree call on_key same) passed (l.is tree call named on_key same) leaf fits;
      }

-- ---- what a call comes to at its leaf

module _ (operator : Option Merge) (call : Call) (content : Data) (d : Decision) (is : d ≡ decision_at operator call content) where
  law : read_decides_as d (reply_at call content)
  law = subst (λ z. read_decides_as z (reply_at call content)) (sym is) (read_law operator call (value_at content (key_of call)))

  -- without an effect it replies as its read tells,
  pub replies_so : d.effect ≡ effect.Nothing → comes_to operator call content (Replies d.reply)
  replies_so none = go (reply_at call content) law
    where
      go : (o : Option Reply) → read_decides_as d o → o ≡ Some d.reply
      go None off = absurd (off none)
      go (Some reply) e = ap (λ (z : Decision). Some z.reply) (sym e)

  -- and with one it has a change
  pub links_so : (link : Link) → link_of d.effect (key_of call) ≡ Some link → comes_to operator call content (Links (record { link = link; reply = d.reply }))
  links_so link l = (go (reply_at call content) law, (ap (λ (z : Decision). link_of z.effect (key_of call)) (sym is) ∙ l, ap (λ (z : Decision). z.reply) is))
    where
      silent : {X : Type 0} → link_of effect.Nothing (key_of call) ≡ Some link → X
      silent e = cc

      go : (o : Option Reply) → read_decides_as d o → o ≡ None
      go None off = refl
      go (Some reply) e = silent (sym (ap (λ (z : Decision). link_of z.effect (key_of call)) e) ∙ l)

-- a get changes nothing, and replies with the value there
get_replies : (operator : Option Merge) (call : Call) → IsGet call → (content : Data) → comes_to operator call content (Replies (Value (value_at content (key_of call))))
get_replies operator (Get key) is content = refl
get_replies operator other is content = absurd is

pub get_on_key : (call : Call) → IsGet call → IsOnKey call
get_on_key (Get key) is = refl
get_on_key other is = absurd is

-- the leaf was not changed since it was read
pub unchanged : {change : Rattle.sled_nodes.specs.declared.node.Node.Node → Rattle.sled_nodes.specs.declared.node.Node.Node} {pid version : ℕ} {old new : Store} {present : Option ℕ} → version_now old pid ≡ Some version → Changes change pid version old new (Err present) → ⊥
unchanged now c = c.is.2 (c.is.1 ∙ now)

-- ---- its last step

module _ (operator : Option Merge) (s : Store) (f : InFlight) (view : View) (k : FindsLeaf s f view) (call : Call) (same : f.job.call ≡ call) (on_key : IsOnKey call) where
  call_is : k.last.job.call ≡ call
  call_is = ap (λ (j : Job). j.call) k.job ∙ same

  has_one : k.last.turns < MAX_LOOPS
  has_one = let two = k.fits in omega (arith, two)

  by_read : (w : Went) → Settles s k.last w k.last → StepsBy operator s k.last w s k.last
  by_read w step = record { advances = flies_by_these s s k.last k.last w step.advances; passes = step.passes; follows = step.follows }

  -- there is no memory,
  pub leaf_refuses : (e : Error) → e ≡ NoMemory → RunsStraight operator s f (Err e) s
  leaf_refuses e none = record {
    last = k.last;
    walks = k.walks;
    has_turns = has_one;
    ends = by_read (went.Refused e) (comes_to_nothing s k.last view k.leaf k.clean k.meets e (subst IsOnKey (sym call_is) on_key) none);
  }

  -- or the leaf has the reply,
  pub leaf_replies : (reply : Reply) → comes_to operator call view.node.content (Replies reply) → RunsStraight operator s f (Ok reply) s
  leaf_replies reply comes = record {
    last = k.last;
    walks = k.walks;
    has_turns = has_one;
    ends = by_read (went.Decided reply) (comes_to_reply s k.last view k.leaf k.clean k.meets reply (subst IsOnKey (sym call_is) on_key) (ap (λ c. reply_at c view.node.content) call_is ∙ comes));
  }

  -- of a get always,
  pub leaf_tells : IsGet call → (made : Result Reply Error) → IfOk made (λ reply. reply ≡ Value (value_at view.node.content (key_of call))) → IfErr made (λ e. e ≡ NoMemory) → RunsStraight operator s f made s
  leaf_tells get (Ok reply) told none = leaf_replies reply (subst (λ r. comes_to operator call view.node.content (Replies r)) (sym told) (get_replies operator call get view.node.content))
  leaf_tells get (Err e) told none = leaf_refuses e none

  -- or the change is linked
  abbrev acting : InFlight
  acting = record { job = k.last.job; aim = k.last.aim; stage = stage.Act view; turns = k.last.turns + 1 }

  module _ (change : Change) (comes : comes_to operator call view.node.content (Links change)) where
    walks_on : WalksTo s f acting
    walks_on = GoesOn k.walks (record {
      has_turns = has_one;
      on_walk = k.on_walk;
      settles = comes_to_act s k.last view k.leaf k.clean k.meets (ap (λ c. reply_at c view.node.content) call_is ∙ comes.0);
    })

    prepares : PreparesChange operator acting (Some change)
    prepares = record { is = λ other here. subst (λ (v : View). IsChangeOf operator k.last.job.call v.node.content (Some change)) (view_is other here) (subst (λ c. IsChangeOf operator c view.node.content (Some change)) (sym call_is) comes.1) }
      where
        view_is : (other : View) → stage.Act view ≡ stage.Act other → view ≡ other
        view_is other e = cc

    pub leaf_links : (made : Result Reply Error) (t : Store) → links_now change view s made t → RunsStraight operator s f made t
    leaf_links (Ok reply) t l = record {
      last = acting;
      walks = walks_on;
      has_turns = k.fits;
      ends = subst (λ r. StepsBy operator s acting (went.Decided r) t acting) (sym l.0) ((link_done change.link s t acting view refl l.1 acting l.2).is operator change.reply prepares);
    }
    leaf_links (Err e) t l = record {
      last = acting;
      walks = walks_on;
      has_turns = k.fits;
      ends = (link_refused change.link s t acting view refl e acting l).is operator change.reply prepares;
    }
