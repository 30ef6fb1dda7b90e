-- What adding a job and taking one out do to the jobs that wait.
use Rattle.std.proofs.Common.{◌≡◌, Bool, true, not, cond, ◌&&◌, T, [], ◌∷◌, ◌++◌, Option, Some, None, option_map, is_some, Less, Equal, Greater, is_eq, sym, refl, ap, ◌∙◌, subst}
use Rattle.std.specs.FinMap.Entries.{find, put, by_order, is_sorted, below_all}
use Rattle.std.specs.List.{AllByRecursion}
use Rattle.std.specs.Ordering.{is_lt, eq_by_cmp}
use Rattle.std.specs.declared.cmp.Ordering.{Ordering}
use Rattle.std.proofs.lemmas.Cmp.{tied_itself}
use Rattle.sled_nodes.proofs.Basics.{left_of, key_total}
use Rattle.sled_nodes.specs.Order.{Key, key_cmp, Below}
use Rattle.sled_nodes.specs.Node.{without}
use Rattle.sled_store.specs.theory.Facts.{put_name_here}
use Rattle.sled_store.specs.Store.{Store}
use Rattle.sled_nodes.specs.declared.error.Error.{Error}
use Rattle.sled_model.specs.Maps.{Map, Merge, IsLeast}
use Rattle.sled_model.specs.Answer.{answer_of, decision_of, map_after}
use Rattle.sled_model.specs.State.{State, NamedTree, maps_of, after_decision_on}
use Rattle.sled_model.specs.Whole.{RefusesPoint, after_pop}
use Rattle.sled_model.specs.declared.call.Call.{Call}
use Rattle.sled_model.specs.declared.call.Call.TheVariants.{Insert, Remove}
use Rattle.sled_model.specs.declared.call.Whole.TheVariants.{PopMin}
use Rattle.sled_model.specs.declared.decision.Effect.TheVariants as effect
use Rattle.sled_model.specs.declared.reply.Reply.TheVariants.{Pair}
use Rattle.sled_model.specs.declared.tree.Tree.{Tree}
use Rattle.tree_laws.proofs.Pairs.{above, without_above}
use Rattle.sled.specs.Values.{DbValue, db_state}
use Rattle.sled.specs.Sound.{MapsAscend}
use Rattle.sled.specs.Direct.{WholeDecided, WholeRefused}
use Rattle.sled.specs.Promises.{ChangesMap}
use Rattle.example_databases.specs.Queue.{jobs_of, waiting, Adds, Takes, takes_as}

-- ---- maps

-- a key above all others goes to the end
absent : (k : Key) (m : Map) → AllByRecursion (λ e. Below e.0 k) m → find key_cmp k m ≡ None
absent k [] a = refl
absent k (x ∷ xs) a = ap (λ o. cond (is_eq o) (Some x.1) (find key_cmp k xs)) (above x.0 k a.0) ∙ absent k xs a.1

pub last : (k v : Key) (m : Map) → AllByRecursion (λ e. Below e.0 k) m → put key_cmp k v m ≡ m ++ (k, v) ∷ []
last k v [] a = refl
last k v (x ∷ xs) a = ap (λ o. by_order o ((k, v) ∷ x ∷ xs) ((x.0, v) ∷ xs) (x ∷ put key_cmp k v xs)) (above x.0 k a.0) ∙ ap (λ r. x ∷ r) (last k v xs a.1)

pub inserted : (merge : Option Merge) (k v : Key) (m : Map) → AllByRecursion (λ e. Below e.0 k) m → (answer_of merge (Insert k v) m).map ≡ m ++ (k, v) ∷ []
inserted merge k v m a = ap (λ o. map_after (decision_of merge (Insert k v) o).effect k m) (absent k m a) ∙ last k v m a

-- the keys behind the first are above it
lowest : (k : Key) (m : Map) → T (below_all key_cmp k m) → AllByRecursion (λ e. Below k e.0) m
lowest k [] t = tt
lowest k (x ∷ xs) t = let s = split (key_cmp k x.0) (below_all key_cmp k xs) t in (s.0, lowest k xs s.1)
  where
    split : (o : Ordering) (b : Bool) → T (is_lt o && b) → (o ≡ Less) × T b
    split Less b t = (refl, t)
    split Equal b t = absurd t
    split Greater b t = absurd t

removed : (merge : Option Merge) (pair : Key × Key) (rest : Map) → T (is_sorted key_cmp (pair ∷ rest)) → (answer_of merge (Remove pair.0) (pair ∷ rest)).map ≡ rest
removed merge pair rest sorted =
    ap (λ b. map_after (cond (is_some (cond b (Some pair.1) (find key_cmp pair.0 rest))) effect.Remove effect.Nothing) pair.0 (pair ∷ rest)) tied
    ∙ ap (λ b. cond (not b) (pair ∷ without pair.0 rest) (without pair.0 rest)) tied
    ∙ without_above pair.0 rest (lowest pair.0 rest (left_of (below_all key_cmp pair.0 rest) (is_sorted key_cmp rest) sorted))
  where
    tied : eq_by_cmp key_cmp pair.0 pair.0 ≡ true
    tied = ap is_eq (tied_itself key_total pair.0)

-- ---- the queue

module _ {P M : Type 0} (store : P → Store) (meant : M → Merge) (old : DbValue P M) (queue : Tree) where
  -- what waits, by the tree's map
  waits : (s : State) (named : NamedTree) → s.trees queue.name ≡ Some named → jobs_of (maps_of s queue.name) ≡ named.map
  waits s named there = ap (λ o. jobs_of (option_map (λ (t : NamedTree). t.map) o)) there

  decided_waits : (s : State) (named : NamedTree) (call : Call) → jobs_of (maps_of (after_decision_on s queue.name named (answer_of named.merge call named.map)) queue.name) ≡ (answer_of named.merge call named.map).map
  decided_waits s named call = ap (λ o. jobs_of (option_map (λ (t : NamedTree). t.map) o)) (put_name_here s.trees queue.name (Some (record named { map = (answer_of named.merge call named.map).map })))

  pub added : (new : DbValue P M) (ticket job : Key) (stood : Option Key) → ChangesMap store meant old queue (λ before after. (stood ≡ find key_cmp ticket before) × (after ≡ put key_cmp ticket job before)) new
      → Adds (waiting store meant old queue) ticket job (waiting store meant new queue)
  added new ticket job stood c = record {
    is = λ below.
        ap jobs_of c.becomes
        ∙ c.is.1
        ∙ last ticket job c.before (subst (AllByRecursion (λ e. Below e.0 ticket)) (ap jobs_of c.was) below)
        ∙ ap (λ m. m ++ (ticket, job) ∷ []) (sym (ap jobs_of c.was));
  }

  pub not_added : (new : DbValue P M) (call : Call) (e : Error) → RefusesPoint (db_state store meant old) (store old.pages) (store new.pages) queue call e (db_state store meant new) → waiting store meant new queue ≡ waiting store meant old queue
  not_added new call e p = ap (λ (s : State). jobs_of (maps_of s queue.name)) p.is

  taken_as : (new : State) (named : NamedTree) (found : Option (Key × Key)) → (db_state store meant old).trees queue.name ≡ Some named → IsLeast named.map found → T (is_sorted key_cmp named.map) → new ≡ after_pop (db_state store meant old) queue.name named found
      → takes_as (waiting store meant old queue) found (jobs_of (maps_of new queue.name))
  taken_as new named None there ends sorted is =
      let was : waiting store meant old queue ≡ named.map = waits (db_state store meant old) named there in
      (was ∙ ends, ap (λ (s : State). jobs_of (maps_of s queue.name)) is ∙ was ∙ ends)
  taken_as new named (Some pair) there ends sorted is =
      let was : waiting store meant old queue ≡ named.map = waits (db_state store meant old) named there in
      let after : jobs_of (maps_of new queue.name) ≡ ends.0 =
      ap (λ (s : State). jobs_of (maps_of s queue.name)) is
      ∙ decided_waits (db_state store meant old) named (Remove pair.0)
      ∙ ap (λ m. (answer_of named.merge (Remove pair.0) m).map) ends.1
      ∙ removed named.merge pair ends.0 (subst (λ m. T (is_sorted key_cmp m)) ends.1 sorted) in
      was ∙ ends.1 ∙ ap (λ m. pair ∷ m) (sym after)

  pair_is : {a b : Option (Key × Key)} → Pair a ≡ Pair b → a ≡ b
  pair_is e = cc

  pub taken : (new : DbValue P M) (found : Option (Key × Key)) → MapsAscend (maps_of (db_state store meant old)) → WholeDecided store meant old (PopMin queue) (Pair found) new → Takes (waiting store meant old queue) found (waiting store meant new queue)
  taken new found ascend w =
      let p = w.decides (λ n. None) 0 0 in record {
        is = subst (λ z. takes_as (waiting store meant old queue) z (waiting store meant new queue)) (sym (pair_is p.replies)) (taken_as (db_state store meant new) p.named p.found p.there p.ends (subst T (sym (ascend.is queue.name p.named.map (ap (option_map (λ (t : NamedTree). t.map)) p.there))) tt) p.is);
      }

  pub not_taken : (new : DbValue P M) (e : Error) → WholeRefused store meant old (PopMin queue) e new → waiting store meant new queue ≡ waiting store meant old queue
  not_taken new e w = ap (λ (s : State). jobs_of (maps_of s queue.name)) (w.refuses (λ n. None) 0).1
