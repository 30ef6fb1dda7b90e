-- Calls that take out the pair at an end of a tree, and clears.
use Rattle.std.proofs.Common.{◌≡◌, ◌≢◌, ℕ, zero, suc, ◌+◌, min, ◌<◌, ◌≤◌, ◌⊎◌, Bool, true, false, not, cond, List, [], ◌∷◌, ◌++◌, append-nil, length, Option, Some, None, is_some, sym, refl, ap, ◌∙◌, subst, inl, inr, arith}
use Rattle.std.proofs.lemmas.Cmp.{tied_itself}
use Rattle.std.specs.List.{filter, list_any}
use Rattle.std.specs.FinMap.Entries.{find}
use Rattle.std.specs.Ordering.{is_eq, eq_by_cmp}
use Rattle.std.specs.declared.ops.Bound.TheVariants.{Unbounded}
use Rattle.sled_nodes.proofs.Basics.{some_is, true_false, key_total}
use Rattle.sled_nodes.specs.Order.{Key, key_cmp}
use Rattle.sled_nodes.specs.Among.{is_from, is_up_to, IsSuccessor, IsPredecessor}
use Rattle.sled_nodes.specs.Node.{without}
use Rattle.sled_store.specs.theory.Facts.{put_name_here}
use Rattle.sled_store.specs.Store.{Store, now}
use Rattle.sled_nodes.specs.declared.error.Error.{Error}
use Rattle.sled_nodes.specs.declared.error.Error.TheVariants as error
use Rattle.sled_model.specs.Maps.{Map, Maps, Merge, IsLeast, IsGreatest}
use Rattle.sled_model.specs.Answer.{answer_of, map_after}
use Rattle.sled_model.specs.State.{State, NamedTree, CallInFlight, maps_of, after_decision_on}
use Rattle.sled_model.specs.Refusal.{MustRefuse, must_refuse, must_refuse_of, MayRefuse, TellsTurns, ToPoint, ToCall, cause_of, may_refuse_as, cause_of_walk}
use Rattle.sled_model.specs.Transition.{Configuration, does_of, kind_of}
use Rattle.sled_model.specs.Whole.{Pops, RemovesLeast, RemovesNone, RemovesOne}
use Rattle.sled_model.specs.declared.outcome.Outcome.TheVariants as outcome
use Rattle.sled_model.specs.declared.call.Call.TheVariants.{Remove}
use Rattle.sled_model.specs.declared.call.Whole.{Whole}
use Rattle.sled_model.specs.declared.call.Whole.TheVariants.{PopMin, PopMax, Clear}
use Rattle.sled_model.specs.declared.decision.Effect.TheVariants as effect
use Rattle.sled_model.specs.declared.reply.Reply.{Reply}
use Rattle.sled_model.specs.declared.reply.Reply.TheVariants.{Pair, Done}
use Rattle.sled_model.specs.declared.tree.Tree.{Tree}
use Rattle.tree_laws.proofs.Crashing.{extends_again}
use Rattle.tree_laws.specs.Paths.{tree_pages}
use Rattle.tree_reads.specs.Walk.{once}
use Rattle.tree_reads.specs.declared.TheConstants.{MOST_PAGES}
use Rattle.sled.specs.Values.{DbValue, state_of, db_state, configuration_of}
use Rattle.sled.specs.Sound.{IsDb}
use Rattle.sled.specs.Flights.{IsStepRefused}
use Rattle.sled.specs.Reads.{ReadsMap, RefusesReading, refuses_reading_as, stops_reading}
use Rattle.tree_groups.specs.Writes.{ActsOften, NoAction, OneAction}
use Rattle.sled.specs.Direct.{Conducts, PointDecided, PointRefused, WholeDecided, WholeRefused, effect_of_whole, changes_only, lost_of, LeavesAll, changes_refused}
use Rattle.sled.specs.Pops.{end_of, pop_of, TakesOut, RefusesToTake, IsAtEnd, PopsBySteps, PopRefusedBySteps, GivesUpPop, ClearsBySteps, ClearsNone, ClearsMore, ClearRefusedBySteps}
use Rattle.sled.specs.declared.whole.Side.{Side}
use Rattle.sled.specs.declared.whole.Side.TheVariants.{Least, Greatest}
use Rattle.sled.specs.theory.Pops.{reads_of, takes_as, leaves_pair_as}
use Rattle.sled.specs.Parts.{most_parts, told_parts, ClearsParts}
use Rattle.sled.proofs.Conducting.{conducts_then, conducts_none, conducts_refused}
use Rattle.sled.proofs.Counting.{told_one}
use Rattle.sled.proofs.Testing.{tested_calm, first_alone, untold_fault, untold_turns}
use Rattle.sled.proofs.Trees.{maps_are}

-- ---- the ends of a map

pub least_is : (map : Map) (found : Option (Key × Key)) → IsSuccessor Unbounded map found → IsLeast map found
least_is [] None k = refl
least_is (x ∷ xs) None k = true_false k
least_is map (Some pair) k = (k.after, k.is ∙ ap (λ b. b ++ pair ∷ k.after) (empty k.before k.none))
  where
    empty : (b : Map) → list_any (λ e. is_from Unbounded e.0) b ≡ false → b ≡ []
    empty [] none = refl
    empty (x ∷ xs) none = true_false none

pub greatest_is : (map : Map) (found : Option (Key × Key)) → IsPredecessor Unbounded map found → IsGreatest map found
greatest_is [] None k = refl
greatest_is (x ∷ xs) None k = true_false k
greatest_is map (Some pair) k = (k.before, k.is ∙ ap (λ a. k.before ++ pair ∷ a) (empty k.after k.none))
  where
    empty : (a : Map) → list_any (λ e. is_up_to Unbounded e.0) a ≡ false → a ≡ []
    empty [] none = refl
    empty (x ∷ xs) none = true_false none

-- a map without its least key is shorter
fewer : (p : Key × Key → Bool) (xs : Map) → length (filter p xs) ≤ length xs
fewer p [] = omega arith
fewer p (x ∷ xs) = let f = fewer p xs in elim (p x) as (λ b. length (cond b (x ∷ filter p xs) (filter p xs)) ≤ suc (length xs)) [ true ↦ omega arith | false ↦ omega arith ]

shorter : (merge : Option Merge) (pair : Key × Key) (rest : Map) → length (answer_of merge (Remove pair.0) (pair ∷ rest)).map < suc (length rest)
shorter merge pair rest = subst (λ n. n < suc (length rest)) (sym is) below
  where
    k : Key
    k = pair.0

    tied : eq_by_cmp key_cmp pair.0 pair.0 ≡ true
    tied = ap is_eq (tied_itself key_total pair.0)

    is : length (answer_of merge (Remove pair.0) (pair ∷ rest)).map ≡ length (without pair.0 rest)
    is =
        ap (λ b. length (map_after (cond (is_some (cond b (Some pair.1) (find key_cmp pair.0 rest))) effect.Remove effect.Nothing) pair.0 (pair ∷ rest))) tied
        ∙ ap (λ b. length (cond (not b) (pair ∷ without pair.0 rest) (without pair.0 rest))) tied

    below : length (without pair.0 rest) < suc (length rest)
    below = let f = fewer (λ e. not (eq_by_cmp key_cmp pair.0 e.0)) rest in omega arith

-- how many pairs a tree has, if it is there
abbrev pub size_of : Option NamedTree → ℕ
size_of None = 0
size_of (Some t) = length t.map

-- ---- refusals

-- a whole call that takes out the pair at an end, which these reads find
pub record IsPop (reads is_end : Map → Option (Key × Key) → Type 0) (tree : Tree) (whole : Whole) : Type 0 where
  pub ends : (map : Map) (found : Option (Key × Key)) → reads map found → is_end map found
  pub which : (whole ≡ PopMin tree) ⊎ (whole ≡ PopMax tree)
  pub must : (s : State) → must_refuse s (ToCall whole) ≡ must_refuse_of s (tree ∷ [])
  pub cause : (s : State) (a b : Store) (e : Error) → cause_of_walk a b e → cause_of s a b (ToCall whole) e
  pub decides : (old : Configuration) (reply : Reply) (new : State) (maps : List Maps) → Pops is_end old.state whole tree reply new maps → (does_of whole).decides old reply new maps
  pub refuses : (s : State) (a b : Store) (e : Error) (new : State) → MayRefuse s a b (ToCall whole) e → new ≡ s → (does_of whole).refuses s a b e new []

pub min_is : (tree : Tree) → IsPop (IsSuccessor Unbounded) IsLeast tree (PopMin tree)
min_is tree = record {
  ends = least_is;
  which = inl refl;
  must = λ s. first_alone (must_refuse_of s (tree ∷ []));
  cause = λ s a b e k. k;
  decides = λ old reply new maps k. k;
  refuses = λ s a b e new may is. (may, is, refl);
}

max_is : (tree : Tree) → IsPop (IsPredecessor Unbounded) IsGreatest tree (PopMax tree)
max_is tree = record {
  ends = greatest_is;
  which = inr refl;
  must = λ s. first_alone (must_refuse_of s (tree ∷ []));
  cause = λ s a b e k. k;
  decides = λ old reply new maps k. k;
  refuses = λ s a b e new may is. (may, is, refl);
}

pub pop_is : (side : Side) (tree : Tree) → IsPop (reads_of side) (end_of side) tree (pop_of side tree)
pop_is Least tree = min_is tree
pop_is Greatest tree = max_is tree

-- what a pop does and leaves is what the removal does and leaves
module _ (tree : Tree) (whole : Whole) (which : (whole ≡ PopMin tree) ⊎ (whole ≡ PopMax tree)) where
  of_pops : (Q : Whole → Type 0) → Q (PopMin tree) → Q (PopMax tree) → Q whole
  of_pops Q least greatest = elim which [
    | inl e ↦ subst Q (sym e) least
    | inr e ↦ subst Q (sym e) greatest
  ]

  pop_decided : {P M : Type 0} (store : P → Store) (meant : M → Merge) (old : DbValue P M) (reply : Reply) (new : DbValue P M) (maps : List Maps)
      → ((slots : ℕ → Option CallInFlight) (slots_given number : ℕ) → (does_of whole).decides (configuration_of store meant old slots slots_given number) reply (state_of store meant new slots slots_given) maps)
      → Conducts store maps None old new → WholeDecided store meant old whole reply new
  pop_decided store meant old reply new maps decides c = record {
    maps = maps;
    decides = decides;
    acts = of_pops (λ w. effect_of_whole (kind_of w) (outcome.Decided reply) (store old.pages) (store new.pages)) c.acts c.acts;
    leaves = of_pops (λ w. LeavesAll store maps (lost_of w reply) old new) c.leaves c.leaves;
    same = of_pops (λ w. changes_only w old new) c.same c.same;
  }

  pop_refused : {P M : Type 0} (store : P → Store) (meant : M → Merge) (old : DbValue P M) (e : Error) (new : DbValue P M)
      → ((slots : ℕ → Option CallInFlight) (slots_given : ℕ) → (does_of whole).refuses (state_of store meant old slots slots_given) (store old.pages) (store new.pages) e (state_of store meant new slots slots_given) [])
      → Conducts store [] (Some e) old new → (must_refuse (db_state store meant old) (ToCall whole) ≢ None → new ≡ old) → WholeRefused store meant old whole e new
  pop_refused store meant old e new refuses c tested = record {
    maps = [];
    refuses = refuses;
    acts = of_pops (λ w. effect_of_whole (kind_of w) (outcome.Refused e) (store old.pages) (store new.pages)) c.acts c.acts;
    leaves = c.leaves;
    same = of_pops (λ w. changes_refused w old new) c.same c.same;
    tested = tested;
  }

-- a part of a clear is refused as a pop of the least pair is
as_clear : (s : State) (a m b : Store) (tree : Tree) (e : Error) → m.faults ≡ a.faults → m.is_readable ≡ a.is_readable → MayRefuse s m b (ToCall (PopMin tree)) e → MayRefuse s a b (ToCall (Clear tree)) e
as_clear s a m b tree e faults readable may = record { is = told (must_refuse s (ToCall (PopMin tree))) may.is }
  where
    cause : (e : Error) → cause_of s m b (ToCall (PopMin tree)) e → cause_of s a b (ToCall (Clear tree)) e
    cause error.NoMemory k = tt
    cause (error.Io fault) (inl k) = inl (subst (λ n. n < b.faults) faults k)
    cause (error.Io fault) (inr (pid, k)) = inr (pid, subst (λ (f : ℕ → Bool). f pid ≡ false) readable k)
    cause other k = k

    told : (o : Option MustRefuse) → may_refuse_as o (cause_of s m b (ToCall (PopMin tree))) e → may_refuse_as o (cause_of s a b (ToCall (Clear tree))) e
    told None k = cause e k
    told (Some must) k = k

-- ---- pops

-- the state with these slots
abbrev with_slots : (ℕ → Option CallInFlight) → ℕ → State → State
with_slots slots given s = record s { slots = slots; slots_given = given }

module _ {P M : Type 0} (store : P → Store) (meant : M → Merge) (old : DbValue P M) (tree : Tree) {reads is_end : Map → Option (Key × Key) → Type 0} {whole : Whole} (pop : IsPop reads is_end tree whole) where
  -- what a read says, where it is refused
  read_cause : (of : ℕ → ℕ) (s : State) (e : Error) → stops_reading store meant old tree of e → cause_of_walk (store old.pages) (store old.pages) e
  read_cause of s error.NoMemory k = tt
  read_cause of s (error.Io fault) k = inr (k.0, k.1)
  read_cause of s (error.ReportableBug text) k = k.0
  read_cause of s other k = absurd k

  read_may : (of : ℕ → ℕ) (e : Error) → RefusesReading store meant old tree of e → (slots : ℕ → Option CallInFlight) (given : ℕ) → MayRefuse (state_of store meant old slots given) (store old.pages) (store old.pages) (ToCall whole) e
  read_may of e r slots given = record { is = subst (λ o. may_refuse_as o (cause_of (state_of store meant old slots given) (store old.pages) (store old.pages) (ToCall whole)) e) (sym (pop.must (state_of store meant old slots given))) (go (must_refuse_of (db_state store meant old) (tree ∷ [])) r.is) }
    where
      go : (o : Option MustRefuse) → refuses_reading_as store meant old tree of o e → may_refuse_as o (cause_of (state_of store meant old slots given) (store old.pages) (store old.pages) (ToCall whole)) e
      go None k = pop.cause (state_of store meant old slots given) (store old.pages) (store old.pages) e (read_cause of (state_of store meant old slots given) e k)
      go (Some must) k = k

  read_quiet : (of : ℕ → ℕ) (e : Error) (o : Option MustRefuse) → refuses_reading_as store meant old tree of o e → IsStepRefused e (store old.pages) (store old.pages)
  read_quiet of error.NoMemory o k = refl
  read_quiet of (error.Io fault) None k = inr (refl, (k.0, k.1))
  read_quiet of (error.Io fault) (Some must) k = absurd (untold_fault (Some must) (error.Io fault) k fault refl)
  read_quiet of other o k = refl

  refused : (e : Error) (new : DbValue P M) → ((slots : ℕ → Option CallInFlight) (given : ℕ) → MayRefuse (state_of store meant old slots given) (store old.pages) (store new.pages) (ToCall whole) e) → db_state store meant new ≡ db_state store meant old → Conducts store [] (Some e) old new → (must_refuse (db_state store meant old) (ToCall whole) ≢ None → new ≡ old)
      → WholeRefused store meant old whole e new
  refused e new may is conducts tested = pop_refused tree whole pop.which store meant old e new (λ slots given. pop.refuses (state_of store meant old slots given) (store old.pages) (store new.pages) e (state_of store meant new slots given) (may slots given) (ap (with_slots slots given) is)) conducts tested

  -- the read was refused
  pub pop_unread : (of : ℕ → ℕ) (e : Error) → RefusesReading store meant old tree of e → WholeRefused store meant old whole e old
  pop_unread of e r = refused e old (read_may of e r) refl (conducts_refused store meant old e (read_quiet of e (must_refuse_of (db_state store meant old) (tree ∷ [])) r.is)) (λ must. refl)

  -- what was read is at the end
  at_found : (read found : Option (Key × Key)) → read ≡ found → ReadsMap store meant old tree (λ map. reads map read) → ReadsMap store meant old tree (λ map. is_end map found)
  at_found read found e r = record { tested = r.tested; named = r.named; there = r.there; is = pop.ends r.named.map found (subst (reads r.named.map) e r.is) }

  -- the tree has no pair
  pop_none : IsDb store old → ReadsMap store meant old tree (λ map. reads map None) → WholeDecided store meant old whole (Pair None) old
  pop_none db r = let k = at_found None None refl r in pop_decided tree whole pop.which store meant old (Pair None) old (maps_of (db_state store meant old) ∷ [])
      (λ slots given number. pop.decides (configuration_of store meant old slots given number) (Pair None) (state_of store meant old slots given) (maps_of (db_state store meant old) ∷ [])
      (record { free = pop.must (state_of store meant old slots given) ∙ r.tested; named = k.named; there = k.there; found = None; ends = k.is; replies = refl; is = refl; added = refl }))
      (let none = conducts_none store meant old in record {
        acts = none.acts;
        leaves = record {
          extends = subst (λ m. Rattle.tree_laws.specs.Crashes.AddsCrashStates (m ∷ []) (store old.pages) (store old.pages)) (sym (maps_are store meant old db.forest db.is)) (extends_again none.leaves.extends (tested_calm store meant old tree r.tested));
          others = none.leaves.others;
          loses = none.leaves.loses;
          sound = λ d. d;
        };
        same = none.same;
      })

  module _ (pair : Key × Key) (read : Option (Key × Key)) (pair_is : read ≡ Some pair) (r : ReadsMap store meant old tree (λ map. reads map read)) where
    at_end : IsAtEnd store meant old tree is_end pair
    at_end = let k = at_found read (Some pair) pair_is r in record { named = k.named; there = k.there; ends = k.is }

    -- the pair was taken out
    pop_found : (found : Option (Key × Key)) (new : DbValue P M) → TakesOut store meant old tree pair found new → WholeDecided store meant old whole (Pair found) new
    pop_found found new t =
        let d = t.decided.decides in
        pop_decided tree whole pop.which store meant old (Pair found) new (maps_of (db_state store meant new) ∷ [])
        (λ slots given number. pop.decides (configuration_of store meant old slots given number) (Pair found) (state_of store meant new slots given) (maps_of (db_state store meant new) ∷ [])
        (record {
          free = pop.must (state_of store meant old slots given) ∙ r.tested;
          named = d.named;
          there = d.there;
          found = Some pair;
          ends = subst (λ (n : NamedTree). is_end n.map (Some pair)) (some_is (sym at_end.there ∙ d.there)) at_end.ends;
          replies = ap Pair t.answers;
          is = ap (with_slots slots given) d.is;
          added = refl;
        }))
        t.decided.conducts

    -- the causes for which a removal is refused
    take_cause : (slots : ℕ → Option CallInFlight) (given : ℕ) (b : Store) (e : Error) → cause_of (db_state store meant old) (store old.pages) b (ToPoint tree (Remove pair.0)) e → cause_of_walk (store old.pages) b e
    take_cause slots given b error.NoMemory k = tt
    take_cause slots given b other k = k

    may_end : (slots : ℕ → Option CallInFlight) (given : ℕ) (b : Store) (e : Error) → cause_of_walk (store old.pages) b e → MayRefuse (state_of store meant old slots given) (store old.pages) b (ToCall whole) e
    may_end slots given b e k = record { is = subst (λ o. may_refuse_as o (cause_of (state_of store meant old slots given) (store old.pages) b (ToCall whole)) e) (sym (pop.must (state_of store meant old slots given) ∙ r.tested)) (pop.cause (state_of store meant old slots given) (store old.pages) b e k) }

    -- it was not taken out
    pop_untaken : (e : Error) (new : DbValue P M) → RefusesToTake store meant old tree pair e new → WholeRefused store meant old whole e new
    pop_untaken e new t = elim t.is [
      | inl p ↦ refused e new
          (λ slots given. may_end slots given (store new.pages) e (take_cause slots given (store new.pages) e (subst (λ o. may_refuse_as o (cause_of (db_state store meant old) (store old.pages) (store new.pages) (ToPoint tree (Remove pair.0))) e) (first_alone (must_refuse_of (db_state store meant old) (tree ∷ [])) ∙ r.tested) p.refuses.may.is)))
          p.refuses.is p.conducts (λ must. absurd (must (pop.must (db_state store meant old) ∙ r.tested)))
      | inr m ↦ subst (λ (z : DbValue P M). WholeRefused store meant old whole e z) (sym m.1)
          (subst (λ x. WholeRefused store meant old whole x old) (sym m.0)
          (refused error.NoMemory old (λ slots given. may_end slots given (store old.pages) error.NoMemory tt) refl (conducts_refused store meant old error.NoMemory refl) (λ must. refl)))
    ]

    gives_up_untaken : (of : ℕ → ℕ) (e : Error) (new : DbValue P M) → RefusesToTake store meant old tree pair e new → GivesUpPop store meant old tree is_end of e
    gives_up_untaken of e new t = elim t.is [
      | inl p ↦ record { is = λ turns. inr (record { named = at_end.named; there = at_end.there; pair = pair; ends = at_end.ends; long = p.turns turns }) }
      | inr m ↦ record { is = λ turns. absurd (subst TellsTurns m.0 turns) }
    ]

  gives_up_unread : (of : ℕ → ℕ) (e : Error) → RefusesReading store meant old tree of e → GivesUpPop store meant old tree is_end of e
  gives_up_unread of e r = record { is = λ turns. inl (go e (must_refuse_of (db_state store meant old) (tree ∷ [])) r.is turns) }
    where
      go : (e : Error) (o : Option MustRefuse) → refuses_reading_as store meant old tree of o e → TellsTurns e → MOST_PAGES ≤ of (tree_pages (now (store old.pages)) tree.name)
      go (error.ReportableBug text) None k turns = k.1
      go e (Some must) k turns = absurd (untold_turns (Some must) e k turns)
      go other None k turns = absurd turns

  -- what a refused pop promises, whether the read was refused or the removal
  abbrev Stops : (ℕ → ℕ) → Error → DbValue P M → Type 0
  Stops of e new = WholeRefused store meant old whole e new × GivesUpPop store meant old tree is_end of e × PopRefusedBySteps store meant old tree is_end of e new

  pub stops_unread : (of : ℕ → ℕ) (e : Error) → RefusesReading store meant old tree of e → Stops of e old
  stops_unread of e r = (pop_unread of e r, gives_up_unread of e r, record { is = inl (r, refl) })

  pub stops_untaken : (found : Option (Key × Key)) → ReadsMap store meant old tree (λ map. reads map found) → (of : ℕ → ℕ) (e : Error) (new : DbValue P M) → leaves_pair_as store meant old tree found e new → Stops of e new
  stops_untaken None r of e new t = absurd t
  stops_untaken (Some pair) r of e new t = (pop_untaken pair (Some pair) refl r e new t, gives_up_untaken pair (Some pair) refl r of e new t, record { is = inr (pair, at_end pair (Some pair) refl r, t) })

  -- what one promises that is decided
  pub takes_out : IsDb store old → (found : Option (Key × Key)) → ReadsMap store meant old tree (λ map. reads map found) → (new : DbValue P M) → takes_as store meant old tree found new → WholeDecided store meant old whole (Pair found) new × PopsBySteps store meant old tree is_end found new
  takes_out db None r new same = subst (λ z. WholeDecided store meant old whole (Pair None) z × PopsBySteps store meant old tree is_end None z) (sym same) (pop_none db r, record { is = inl (refl, refl) })
  takes_out db (Some pair) r new t = (pop_found pair (Some pair) refl r (Some pair) new t, record { is = inr (pair, at_end pair (Some pair) refl r, t) })

-- there was no memory for what was read
pub short_read : {P M : Type 0} (store : P → Store) (meant : M → Merge) (old : DbValue P M) (tree : Tree) (claim : Map → Type 0) → ReadsMap store meant old tree claim → (of : ℕ → ℕ) (e : Error) → e ≡ error.NoMemory → RefusesReading store meant old tree of e
short_read store meant old tree claim r of e is = record { is = subst (λ o. refuses_reading_as store meant old tree of o e) (sym r.tested) (subst (stops_reading store meant old tree of) (sym is) tt) }

-- ---- clears

-- one more of the least keys is removed
removes_more : (tree : Tree) (n : ℕ) (a b : State) (maps : List Maps) → RemovesLeast tree a n b maps → (named : NamedTree) (pair : Key × Key) (rest : Map) → b.trees tree.name ≡ Some named → named.map ≡ pair ∷ rest
    → RemovesLeast tree a (suc n) (after_decision_on b tree.name named (answer_of named.merge (Remove pair.0) named.map)) (maps ++ maps_of (after_decision_on b tree.name named (answer_of named.merge (Remove pair.0) named.map)) ∷ [])
removes_more tree zero a b [] RemovesNone named pair rest there is = RemovesOne named pair rest there is RemovesNone
removes_more tree (suc n) a b (m ∷ maps) (RemovesOne first p others here was more) named pair rest there is = RemovesOne first p others here was (removes_more tree n (after_decision_on a tree.name first (answer_of first.merge (Remove p.0) first.map)) b maps more named pair rest there is)
removes_more tree zero a b (m ∷ maps) run named pair rest there is = elim run [ ]
removes_more tree (suc n) a b [] run named pair rest there is = elim run [ ]

-- no action counts a fault, and none changes which pages can be read
pub often_faults : {a b : Store} → ActsOften a b → b.faults ≡ a.faults
often_faults NoAction = refl
often_faults (OneAction o r) = often_faults r ∙ ap (λ (s : Store). s.faults) o.is

pub often_readable : {a b : Store} → ActsOften a b → b.is_readable ≡ a.is_readable
often_readable NoAction = refl
often_readable (OneAction o r) = often_readable r ∙ ap (λ (s : Store). s.is_readable) o.is

-- a clear that removed so many keys so far, and counted them
pub record IsClearing {P M : Type 0} (store : P → Store) (meant : M → Merge) (old : DbValue P M) (tree : Tree) (number : ℕ) (mid : DbValue P M) : Type 0 where
  pub parts : ℕ
  pub told : number ≡ told_parts parts
  pub maps : List Maps
  pub removes : (slots : ℕ → Option CallInFlight) (given : ℕ) → RemovesLeast tree (state_of store meant old slots given) parts (state_of store meant mid slots given) maps
  pub conducts : Conducts store maps None old mid
  pub clears : ClearsBySteps store meant tree old mid
  -- it did nothing yet, or the tests let it pass
  pub tested : ((mid ≡ old) × (parts ≡ zero)) ⊎ (must_refuse_of (db_state store meant old) (tree ∷ []) ≡ None)

module _ {P M : Type 0} (store : P → Store) (meant : M → Merge) (old : DbValue P M) (tree : Tree) where
  pub clearing_first : IsClearing store meant old tree 0 old
  clearing_first = record { parts = 0; told = refl; maps = []; removes = λ slots given. RemovesNone; conducts = conducts_none store meant old; clears = ClearsNone; tested = inl (refl, refl) }

  module _ {number : ℕ} (mid : DbValue P M) (k : IsClearing store meant old tree number mid) where
    passed : must_refuse_of (db_state store meant mid) (tree ∷ []) ≡ None → must_refuse_of (db_state store meant old) (tree ∷ []) ≡ None
    passed now_passed = elim k.tested [
      | inl same ↦ subst (λ (z : DbValue P M). must_refuse_of (db_state store meant z) (tree ∷ []) ≡ None) same.0 now_passed
      | inr before ↦ before
    ]

    -- so many parts are done
    pub clearing_parts : ClearsParts store meant old tree number mid
    clearing_parts = record { parts = k.parts; told = k.told; maps = k.maps; removes = k.removes }

    -- no pair is left
    pub clearing_ends : (read : Option (Key × Key)) → read ≡ None → ReadsMap store meant mid tree (λ map. IsSuccessor Unbounded map read) → WholeDecided store meant old (Clear tree) Done mid
    clearing_ends read e r = record {
      maps = k.maps;
      decides = λ slots given number. (
        refl,
        record {
          free = first_alone (must_refuse_of (state_of store meant old slots given) (tree ∷ [])) ∙ passed r.tested;
          parts = k.parts;
          removes = k.removes slots given;
          named = r.named;
          there = r.there;
          none = least_is r.named.map None (subst (λ z. IsSuccessor Unbounded r.named.map z) e r.is);
        },
      );
      acts = k.conducts.acts;
      leaves = k.conducts.leaves;
      same = k.conducts.same;
    }

    stopped : IsDb store mid → (e : Error) (new : DbValue P M) → WholeRefused store meant mid (PopMin tree) e new → Conducts store k.maps (Some e) old new
    stopped db e new w = subst (λ m. Conducts store m (Some e) old new) (append-nil k.maps)
        (conducts_then store meant k.maps [] (Some e) old mid new k.conducts db (subst (λ m. Conducts store m (Some e) mid new) (w.refuses (λ n. None) 0).2 (record { acts = w.acts; leaves = w.leaves; same = w.same })))

    -- the next part is refused
    clearing_stops : IsDb store mid → (e : Error) (new : DbValue P M) → WholeRefused store meant mid (PopMin tree) e new → WholeRefused store meant old (Clear tree) e new
    clearing_stops db e new w = let c = stopped db e new w in record {
      maps = k.maps;
      refuses = λ slots given.
          let r = w.refuses slots given in record {
            parts = k.parts;
            tested = elim k.tested [
              | inl same ↦ inl same.1
              | inr before ↦ inr (first_alone (must_refuse_of (state_of store meant old slots given) (tree ∷ [])) ∙ before)
            ];
            removes = subst (λ (s : State). RemovesLeast tree (state_of store meant old slots given) k.parts s k.maps) (sym r.1) (k.removes slots given);
            may = as_clear (state_of store meant new slots given) (store old.pages) (store mid.pages) (store new.pages) tree e (often_faults k.conducts.acts) (often_readable k.conducts.acts)
                (subst (λ (s : State). MayRefuse s (store mid.pages) (store new.pages) (ToCall (PopMin tree)) e) (sym r.1) r.0);
          };
      acts = c.acts;
      leaves = c.leaves;
      same = c.same;
      tested = λ must. elim k.tested [
        | inl same ↦ w.tested (subst (λ (z : DbValue P M). must_refuse (db_state store meant z) (ToCall (Clear tree)) ≢ None) (sym same.0) must) ∙ same.0
        | inr before ↦ absurd (must (first_alone (must_refuse_of (db_state store meant old) (tree ∷ [])) ∙ before))
      ];
    }

    pub clearing_unread : IsDb store mid → (e : Error) → RefusesReading store meant mid tree once e → WholeRefused store meant old (Clear tree) e mid
    clearing_unread db e r = clearing_stops db e mid (pop_unread store meant mid tree (min_is tree) once e r)

    pub clearing_unread_steps : (e : Error) → RefusesReading store meant mid tree once e → ClearRefusedBySteps store meant old tree e mid
    clearing_unread_steps e r = record { mid = mid; clears = k.clears; refused = record { is = inl (r, refl) }; gives_up = gives_up_unread store meant mid tree (min_is tree) once e r }

    module _ (pair : Key × Key) (read : Option (Key × Key)) (e : read ≡ Some pair) (r : ReadsMap store meant mid tree (λ map. IsSuccessor Unbounded map read)) where
      pub clearing_untaken : IsDb store mid → (x : Error) (new : DbValue P M) → PointRefused store meant mid tree (Remove pair.0) x new → WholeRefused store meant old (Clear tree) x new
      clearing_untaken db x new p = clearing_stops db x new (pop_untaken store meant mid tree (min_is tree) pair read e r x new (record { is = inl p }))

      abbrev at : IsAtEnd store meant mid tree IsLeast pair
      at = at_end store meant mid tree (min_is tree) pair read e r

      pub clearing_untaken_steps : (x : Error) (new : DbValue P M) → PointRefused store meant mid tree (Remove pair.0) x new → ClearRefusedBySteps store meant old tree x new
      clearing_untaken_steps x new p = record {
        mid = mid;
        clears = k.clears;
        refused = record { is = inr (pair, at, record { is = inl p }) };
        gives_up = gives_up_untaken store meant mid tree (min_is tree) pair read e r once x new (record { is = inl p });
      }

      -- .. and no part more is done
      pub clearing_parts_untaken : (x : Error) (new : DbValue P M) → PointRefused store meant mid tree (Remove pair.0) x new → ClearsParts store meant old tree number new
      clearing_parts_untaken x new p = record {
        parts = k.parts;
        told = k.told;
        maps = k.maps;
        removes = λ slots given. subst (λ (s : State). RemovesLeast tree (state_of store meant old slots given) k.parts s k.maps) (sym (ap (with_slots slots given) p.refuses.is)) (k.removes slots given);
      }

      -- a part is done
      module _ (reply : Reply) (new : DbValue P M) (p : PointDecided store meant mid tree (Remove pair.0) reply new) where
        abbrev named : NamedTree
        named = p.decides.named

        first : (rest : Map) × (named.map ≡ pair ∷ rest)
        first = subst (λ (n : NamedTree). IsLeast n.map (Some pair)) (some_is (sym r.there ∙ p.decides.there)) (subst (λ z. IsLeast r.named.map z) e (least_is r.named.map read r.is))

        state_now : (slots : ℕ → Option CallInFlight) (given : ℕ) → state_of store meant new slots given ≡ after_decision_on (state_of store meant mid slots given) tree.name named (answer_of named.merge (Remove pair.0) named.map)
        state_now slots given = ap (with_slots slots given) p.decides.is

        pub clearing_more : IsDb store mid → (more : ℕ) → more ≡ min (number + 1) most_parts → IsClearing store meant old tree more new
        clearing_more db more counted = record {
          parts = suc k.parts;
          told = told_one k.parts number more k.told counted;
          maps = k.maps ++ maps_of (db_state store meant new) ∷ [];
          removes = λ slots given. subst (λ (s : State). RemovesLeast tree (state_of store meant old slots given) (suc k.parts) s (k.maps ++ maps_of s ∷ [])) (sym (state_now slots given))
              (removes_more tree k.parts (state_of store meant old slots given) (state_of store meant mid slots given) k.maps (k.removes slots given) named pair first.0 p.decides.there first.1);
          conducts = conducts_then store meant k.maps (maps_of (db_state store meant new) ∷ []) None old mid new k.conducts db p.conducts;
          clears = ClearsMore k.clears at p;
          tested = inr (passed r.tested);
        }

        -- and the tree has a pair less
        pub clearing_smaller : size_of ((db_state store meant new).trees tree.name) < size_of ((db_state store meant mid).trees tree.name)
        clearing_smaller = less (length (answer_of named.merge (Remove pair.0) named.map).map) (length first.0) (size_of ((db_state store meant new).trees tree.name)) (size_of ((db_state store meant mid).trees tree.name)) after before
            (subst (λ (m : Map). length (answer_of named.merge (Remove pair.0) m).map < suc (length first.0)) (sym first.1) (shorter named.merge pair first.0))
          where
            after : size_of ((db_state store meant new).trees tree.name) ≡ length (answer_of named.merge (Remove pair.0) named.map).map
            after = ap (λ (s : State). size_of (s.trees tree.name)) p.decides.is ∙ ap size_of (put_name_here (db_state store meant mid).trees tree.name (Some (record named { map = (answer_of named.merge (Remove pair.0) named.map).map })))

            before : size_of ((db_state store meant mid).trees tree.name) ≡ suc (length first.0)
            before = ap size_of p.decides.there ∙ ap length first.1

            less : (a r x y : ℕ) → x ≡ a → y ≡ suc r → a < suc r → x < y
            less a r x y e f h = omega arith
