-- Imports.
use Rattle.std.proofs.Common.{◌≡◌, ◌≢◌, ◌⊎◌, ℕ, ◌+◌, min, ◌<◌, ◌≤◌, Bool, true, false, not, cond, Bor, List, [], ◌∷◌, ◌++◌, append-nil, append_assoc, add-zero, drop, get_or, length, length-append, Option, Some, None, is_some, Result, Ok, Err, IfErr, OnOk, sym, refl, ap, ◌∙◌, subst, inl, inr}
use Rattle.std.proofs.lemmas.List.{drop_all}
use Rattle.std.specs.FinMap.Entries.{find}
use Rattle.std.specs.Global.{Vec}
use Rattle.sled_nodes.proofs.Basics.{some_is}
use Rattle.sled_nodes.specs.Order.{Key, key_cmp}
use Rattle.sled_store.specs.theory.Facts.{put_name_here}
use Rattle.sled_store.specs.Store.{Store, now}
use Rattle.sled_nodes.specs.declared.error.Error.{Error}
use Rattle.sled_nodes.specs.declared.error.Error.TheVariants as error
use Rattle.sled_nodes.specs.declared.texts.TheConstants.{OVERWRITES_DATA, UNKNOWN_COLLECTION_TYPE}
use Rattle.sled_model.specs.Maps.{Maps, Merge}
use Rattle.sled_model.specs.Answer.{Answer, answer_of}
use Rattle.sled_model.specs.Collections.{Content, contents_of, are_trees}
use Rattle.sled_model.specs.Imports.{Part, OpensName, Puts, puts_of, parts_of, tree_at, DoesParts, NoPart, OnePart, HasAt, unread_as, refuses_part, Stop, StopsAtPart}
use Rattle.sled_model.specs.State.{State, NamedTree, CallInFlight, maps_of, after_decision_on}
use Rattle.sled_model.specs.Refusal.{MustRefuse, IsClosed, first_of, must_refuse, must_refuse_of, MayRefuse, ToPoint, ToCall, cause_of, may_refuse_as, cause_of_import}
use Rattle.sled_model.specs.Whole.{OpensTree, number_opened, state_opened}
use Rattle.sled_model.specs.declared.call.Call.TheVariants.{Insert}
use Rattle.sled_model.specs.declared.call.Whole.TheVariants.{OpenTree, Import}
use Rattle.sled_model.specs.declared.reply.Reply.{Reply}
use Rattle.sled_model.specs.declared.reply.Reply.TheVariants as told
use Rattle.sled_model.specs.declared.outcome.Outcome.{Outcome}
use Rattle.sled_model.specs.declared.outcome.Outcome.TheVariants.{Decided}
use Rattle.sled_model.specs.declared.tree.Tree.{Tree}
use Rattle.sled_model.proofs.Shapes.{content_of, new_tree}
use Rattle.tree_reads.specs.Walk.{once}
use Rattle.sled.specs.Values.{DbValue, state_of, db_state}
use Rattle.sled.specs.Sound.{IsDb}
use Rattle.sled.specs.Reads.{ReadsMap, RefusesReading, GivesUpGet, refuses_reading_as, stops_reading}
use Rattle.tree_groups.proofs.Grouping.{left_from}
use Rattle.tree_groups.specs.Writes.{NoAction}
use Rattle.sled.specs.Direct.{LeavesAll, PointDecided, PointRefused, WholeDecided, WholeRefused}
use Rattle.sled.specs.Opens.{OpensBySteps, OpenRefusedBySteps}
use Rattle.sled.specs.Imports.{grows_trees, ImportDecided, PartRefusedBySteps, ImportsBySteps, ImportsNone, ImportsMore, ImportStops, ImportRefused}
use Rattle.sled.specs.Parts.{most_parts, told_parts, ImportsParts, ImportRefusedAfter}
use Rattle.sled.specs.theory.Imports.{IsTreeNow, PartsDone, PartsStopped, PartsStoppedAfter}
use Rattle.sled.proofs.Counting.{told_then, told_one, told_before}
use Rattle.sled.proofs.Conducting.{ReadsAlike, acts_then, may_alike, leaves_then, leaves_none}
use Rattle.sled.proofs.Popping.{often_faults, often_readable, min_is, pop_unread}
use Rattle.sled.proofs.Testing.{first_alone}

-- ---- lists of parts

puts_then : (name : Key) (ps : List (Key × Key)) (others : List Part) → puts_of name ps others ≡ puts_of name ps [] ++ others
puts_then name [] others = refl
puts_then name (p ∷ ps) others = ap (λ l. Puts name p.0 p.1 ∷ l) (puts_then name ps others)

parts_first : (c : Content) (cs : List Content) → parts_of (c ∷ cs) ≡ parts_of (c ∷ []) ++ parts_of cs
parts_first c cs = ap (λ l. OpensName c.1 ∷ l) (puts_then c.1 c.2 (parts_of cs))

parts_then : {a m b : State} {ps qs : List Part} {k l : List Maps} → DoesParts a ps m k → DoesParts m qs b l → DoesParts a (ps ++ qs) b (k ++ l)
parts_then NoPart rest = rest
parts_then {a = a} {b = b} {qs = qs} {l = l} (OnePart {part = part} {parts = parts} {maps = maps} added one more) rest =
    subst (λ z. DoesParts a (part ∷ (parts ++ qs)) b z) (sym (append_assoc added maps l)) (OnePart added one (parts_then more rest))

-- ---- refusals

opening_alike : (s : State) (a m b : Store) (name : Key) (e : Error) → ReadsAlike a m → MayRefuse s m b (ToCall (OpenTree name)) e → MayRefuse s a b (ToCall (OpenTree name)) e
opening_alike s a m b name e r may = record { is = go (must_refuse s (ToCall (OpenTree name))) may.is }
  where
    cause : (e : Error) → cause_of s m b (ToCall (OpenTree name)) e → cause_of s a b (ToCall (OpenTree name)) e
    cause error.NoMemory k = tt
    cause (error.Io fault) k = (k.0, subst (λ n. n < b.faults) r.faults k.1)
    cause other k = k

    go : (o : Option MustRefuse) → may_refuse_as o (cause_of s m b (ToCall (OpenTree name))) e → may_refuse_as o (cause_of s a b (ToCall (OpenTree name))) e
    go None k = cause e k
    go (Some must) k = k

unread_alike : (o : Option MustRefuse) (a m : Store) (e : Error) → ReadsAlike a m → unread_as o m e → unread_as o a e
unread_alike (Some must) a m e r k = k
unread_alike None a m error.NoMemory r k = tt
unread_alike None a m (error.Io fault) r k = (k.0, subst (λ (f : ℕ → Bool). f k.0 ≡ false) r.readable k.1)
unread_alike None a m (error.ReportableBug text) r k = k
unread_alike None a m (error.CollectionNotFound name) r k = k
unread_alike None a m (error.Unsupported text) r k = k
unread_alike None a m (error.Corruption fault) r k = k
unread_alike None a m error.Closed r k = k

part_alike : (s : State) (a m b : Store) (part : Part) (e : Error) → ReadsAlike a m → refuses_part s m b part e → refuses_part s a b part e
part_alike s a m b (OpensName name) e r k = opening_alike s a m b name e r k
part_alike s a m b (Puts name key value) e r (inl k) = inl k
part_alike s a m b (Puts name key value) e r (inr (inl k)) = inr (inl (unread_alike (must_refuse_of s (tree_at s name ∷ [])) a m e r k))
part_alike s a m b (Puts name key value) e r (inr (inr k)) = inr (inr (k.0, may_alike s a m b (tree_at s name) (Insert key value) e r k.1))

-- a tree keeps its number where its map changes
put_stays : (s : State) (name : Key) (named : NamedTree) (a : Answer) → s.trees name ≡ Some named → tree_at (after_decision_on s name named a) name ≡ tree_at s name
put_stays s name named a there =
    ap (λ (z : Option NamedTree). record { database = s.name; name = name; number = number_opened z (after_decision_on s name named a) }) (put_name_here s.trees name (Some (record named { map = a.map })))
    ∙ sym (ap (λ (z : Option NamedTree). record { database = s.name; name = name; number = number_opened z s }) there)

absent : (o : Option Key) → is_some o ≡ false → o ≡ None
absent None e = refl
absent (Some v) e = cc

value_of : (o : Option Key) → is_some o ≡ true → (v : Key) × (o ≡ Some v)
value_of None e = cc
value_of (Some v) e = (v, refl)

-- the state with these slots
abbrev with_slots : (ℕ → Option CallInFlight) → ℕ → State → State
with_slots slots given s = record s { slots = slots; slots_given = given }

module _ {P M : Type 0} (store : P → Store) (meant : M → Merge) where
  abbrev State_of : DbValue P M → (ℕ → Option CallInFlight) → ℕ → State
  State_of d slots given = state_of store meant d slots given

  -- the tree that a name has is the same beside whatever calls
  at_slots : (d : DbValue P M) (slots : ℕ → Option CallInFlight) (given : ℕ) (name : Key) → tree_at (db_state store meant d) name ≡ tree_at (State_of d slots given) name
  at_slots d slots given name = ap (λ (n : ℕ). record { database = d.name; name = name; number = n }) (go ((db_state store meant d).trees name))
    where
      go : (o : Option NamedTree) → number_opened o (db_state store meant d) ≡ number_opened o (State_of d slots given)
      go None = refl
      go (Some t) = refl

  -- ---- parts one after the other

  grows_pages : (old new : DbValue P M) → new ≡ record old { pages = new.pages; queues = new.queues } → grows_trees old new
  grows_pages old new e = e ∙ ap (λ (z : DbValue P M). record old { pages = new.pages; queues = new.queues; trees = z.trees; trees_given = z.trees_given }) (sym e)

  grows_opened : (old new : DbValue P M) → new ≡ record old { pages = new.pages; trees = new.trees; trees_given = new.trees_given } → grows_trees old new
  grows_opened old new e = e ∙ ap (λ (z : DbValue P M). record old { pages = new.pages; queues = z.queues; trees = new.trees; trees_given = new.trees_given }) (sym e)

  grows_not : (old new : DbValue P M) → new ≡ record old { pages = new.pages } → grows_trees old new
  grows_not old new e = e ∙ ap (λ (z : DbValue P M). record old { pages = new.pages; queues = z.queues; trees = z.trees; trees_given = z.trees_given }) (sym e)

  steps_then : {old mid new : DbValue P M} {ps qs : List Part} → ImportsBySteps store meant old ps mid → ImportsBySteps store meant mid qs new → ImportsBySteps store meant old (ps ++ qs) new
  steps_then ImportsNone rest = rest
  steps_then (ImportsMore one more) rest = ImportsMore one (steps_then more rest)

  pub done_none : (old : DbValue P M) → PartsDone store meant old [] old
  done_none old = record { maps = []; does = λ slots given. NoPart; acts = NoAction; leaves = leaves_none store meant old; same = refl; did = ImportsNone }

  pub done_then : (old mid new : DbValue P M) (ps qs : List Part) → PartsDone store meant old ps mid → IsDb store mid → PartsDone store meant mid qs new → PartsDone store meant old (ps ++ qs) new
  done_then old mid new ps qs a db b = record {
    maps = a.maps ++ b.maps;
    does = λ slots given. parts_then (a.does slots given) (b.does slots given);
    acts = acts_then None (store old.pages) (store mid.pages) (store new.pages) a.acts b.acts;
    leaves = leaves_then store meant a.maps b.maps None old mid new a.leaves db b.leaves;
    same = b.same ∙ ap (λ (z : DbValue P M). record z { pages = new.pages; queues = new.queues; trees = new.trees; trees_given = new.trees_given }) a.same;
    did = steps_then a.did b.did;
  }

  done_alike : (old mid : DbValue P M) (ps : List Part) → PartsDone store meant old ps mid → ReadsAlike (store old.pages) (store mid.pages)
  done_alike old mid ps a = record { faults = often_faults a.acts; readable = often_readable a.acts }

  stopped_later : (ps done : List Part) (next : Part) (later qs : List Part) → qs ≡ done ++ next ∷ later → ps ++ qs ≡ (ps ++ done) ++ next ∷ later
  stopped_later ps done next later qs e = ap (λ l. ps ++ l) e ∙ sym (append_assoc ps done (next ∷ later))

  pub stops_then : (old mid new : DbValue P M) (ps qs : List Part) {count : ℕ} (e : Error) → PartsDone store meant old ps mid → IsDb store mid → PartsStopped store meant mid qs count e new → PartsStopped store meant old (ps ++ qs) (length ps + count) e new
  stops_then old mid new ps qs e a db b = record {
    maps = a.maps ++ b.maps;
    stop = record { done = ps ++ b.stop.done; next = b.stop.next; later = b.stop.later };
    counted = ap (λ n. length ps + n) b.counted ∙ sym (length-append ps b.stop.done);
    all_parts = stopped_later ps b.stop.done b.stop.next b.stop.later qs b.all_parts;
    mid = b.mid;
    does = λ slots given. parts_then (a.does slots given) (b.does slots given);
    refuses = λ slots given. part_alike (State_of b.mid slots given) (store old.pages) (store mid.pages) (store new.pages) b.stop.next e (done_alike old mid ps a) (b.refuses slots given);
    stays = b.stays;
    did = steps_then a.did b.did;
    refused = b.refused;
    acts = acts_then (Some e) (store old.pages) (store mid.pages) (store new.pages) a.acts b.acts;
    leaves = leaves_then store meant a.maps b.maps None old mid new a.leaves db b.leaves;
    same = b.same ∙ ap (λ (z : DbValue P M). record z { pages = new.pages; queues = new.queues; trees = new.trees; trees_given = new.trees_given }) a.same;
  }

  stopped_before : (done : List Part) (next : Part) (later ps rs : List Part) → ps ≡ done ++ next ∷ later → ps ++ rs ≡ done ++ next ∷ (later ++ rs)
  stopped_before done next later ps rs e = ap (λ l. l ++ rs) e ∙ append_assoc done (next ∷ later) rs

  pub stops_more : (old new : DbValue P M) (ps rs : List Part) {count : ℕ} (e : Error) → PartsStopped store meant old ps count e new → PartsStopped store meant old (ps ++ rs) count e new
  stops_more old new ps rs e b = record {
    maps = b.maps;
    stop = record { done = b.stop.done; next = b.stop.next; later = b.stop.later ++ rs };
    counted = b.counted;
    all_parts = stopped_before b.stop.done b.stop.next b.stop.later ps rs b.all_parts;
    mid = b.mid;
    does = b.does;
    refuses = b.refuses;
    stays = b.stays;
    did = b.did;
    refused = b.refused;
    acts = b.acts;
    leaves = b.leaves;
    same = b.same;
  }

  -- a part that is refused at once
  stops_at : (old new : DbValue P M) (next : Part) (e : Error) → ((slots : ℕ → Option CallInFlight) (given : ℕ) → State_of new slots given ≡ State_of old slots given) → ((slots : ℕ → Option CallInFlight) (given : ℕ) → refuses_part (State_of old slots given) (store old.pages) (store new.pages) next e)
      → Rattle.sled.specs.Direct.effects_until (Some e) (store old.pages) (store new.pages) → LeavesAll store [] None old new → grows_trees old new → PartRefusedBySteps store meant old next e new → PartsStopped store meant old (next ∷ []) 0 e new
  stops_at old new next e stays refuses acts leaves same steps = record {
    maps = [];
    stop = record { done = []; next = next; later = [] };
    counted = refl;
    all_parts = refl;
    mid = old;
    does = λ slots given. NoPart;
    refuses = refuses;
    stays = stays;
    did = ImportsNone;
    refused = steps;
    acts = acts;
    leaves = leaves;
    same = same;
  }

  -- ---- a name is opened

  opened_at : (s : State) (name : Key) (o : Option NamedTree) → s.trees name ≡ o → tree_at (state_opened o s name) name ≡ record { database = s.name; name = name; number = number_opened o s }
  opened_at s name (Some t) e = ap (λ (z : Option NamedTree). record { database = s.name; name = name; number = number_opened z s }) e
  opened_at s name None e = ap (λ (z : Option NamedTree). record { database = s.name; name = name; number = number_opened z (state_opened None s name) }) (put_name_here s.trees name (Some (new_tree s)))

  told_tree : (t u : Tree) → told.Tree t ≡ told.Tree u → t ≡ u
  told_tree t u e = cc

  module _ (old new : DbValue P M) (name : Key) where
    module _ (tree : Tree) (w : WholeDecided store meant old (OpenTree name) (told.Tree tree) new) where
      opens : OpensTree (db_state store meant old) name (told.Tree tree) (db_state store meant new) w.maps
      opens = w.decides (λ n. None) 0 0

      replied : tree ≡ record { database = old.name; name = name; number = number_opened ((db_state store meant old).trees name) (db_state store meant old) }
      replied = told_tree _ _ opens.replies

      -- what was kept before of what names it is kept of the reply
      pub opened_kept : {K : Type 0} (keeps : Outcome → K) (kept : K) → kept ≡ keeps (Decided (told.Tree (tree_at (db_state store meant old) name))) → kept ≡ keeps (Decided (told.Tree tree))
      opened_kept keeps kept e = e ∙ ap (λ (t : Tree). keeps (Decided (told.Tree t))) (sym replied)

      pub opened_name : tree.name ≡ name
      opened_name = ap (λ (t : Tree). t.name) replied

      pub opened_now : IsTreeNow store meant new tree
      opened_now = record {
        is = replied
            ∙ sym (opened_at (db_state store meant old) name ((db_state store meant old).trees name) refl)
            ∙ ap (λ (s : State). tree_at s name) (sym opens.is)
            ∙ ap (λ n. tree_at (db_state store meant new) n) (sym opened_name);
      }

      pub opened_done : OpensBySteps store name old new → PartsDone store meant old (OpensName name ∷ []) new
      opened_done s = record {
        maps = w.maps;
        does = λ slots given. let d = w.decides slots given 0 in subst (λ m. DoesParts (State_of old slots given) (OpensName name ∷ []) (State_of new slots given) m) (append-nil w.maps) (OnePart w.maps (d.is, d.added) NoPart);
        acts = w.acts;
        leaves = w.leaves;
        same = grows_opened old new w.same;
        did = ImportsMore (record { is = s }) ImportsNone;
      }

    pub opened_not : (e : Error) → WholeRefused store meant old (OpenTree name) e new → OpenRefusedBySteps store name old e new → PartsStopped store meant old (OpensName name ∷ []) 0 e new
    opened_not e w s = stops_at old new (OpensName name) e (λ slots given. (w.refuses slots given).1) (λ slots given. (w.refuses slots given).0)
        w.acts (subst (λ m. LeavesAll store m None old new) (w.refuses (λ n. None) 0).2 w.leaves) (grows_not old new w.same) (record { is = s })

  -- ---- a pair is put

  module _ (old : DbValue P M) (tree : Tree) (is_now : IsTreeNow store meant old tree) (key value : Key) where
    is_absent : (slots : ℕ → Option CallInFlight) (given : ℕ) (there : Bool) → there ≡ false → ReadsMap store meant old tree (λ map. there ≡ is_some (find key_cmp key map)) → HasAt (State_of old slots given) tree.name key None
    is_absent slots given there off r = record { named = r.named; there = r.there; is = absent (find key_cmp key r.named.map) (sym r.is ∙ off) }

    -- the key has no value
    module _ (new : DbValue P M) where
      module _ (reply : Reply) (p : PointDecided store meant old tree (Insert key value) reply new) where
        state_now : (slots : ℕ → Option CallInFlight) (given : ℕ) → State_of new slots given ≡ after_decision_on (State_of old slots given) tree.name p.decides.named (answer_of p.decides.named.merge (Insert key value) p.decides.named.map)
        state_now slots given = ap (with_slots slots given) p.decides.is

        pub put_now : IsTreeNow store meant new tree
        put_now = record {
          is = is_now.is
              ∙ sym (put_stays (db_state store meant old) tree.name p.decides.named (answer_of p.decides.named.merge (Insert key value) p.decides.named.map) p.decides.there)
              ∙ ap (λ (s : State). tree_at s tree.name) (sym p.decides.is);
        }

        pub put_done : (there : Bool) → there ≡ false → ReadsMap store meant old tree (λ map. there ≡ is_some (find key_cmp key map)) → PartsDone store meant old (Puts tree.name key value ∷ []) new
        put_done there off r = record {
          maps = maps_of (db_state store meant new) ∷ [];
          does = λ slots given. OnePart
              (maps_of (db_state store meant new) ∷ [])
              (record {
                named = p.decides.named;
                there = p.decides.there;
                absent = subst (λ (n : NamedTree). find key_cmp key n.map ≡ None) (some_is (sym r.there ∙ p.decides.there)) (absent (find key_cmp key r.named.map) (sym r.is ∙ off));
                is = state_now slots given;
                added = refl;
              })
              NoPart;
          acts = p.conducts.acts;
          leaves = p.conducts.leaves;
          same = grows_pages old new p.conducts.same;
          did = ImportsMore (record { is = (reply, subst (λ t. PointDecided store meant old t (Insert key value) reply new) is_now.is p) }) ImportsNone;
        }

      -- the insert was refused
      may_slots : (e : Error) → MayRefuse (db_state store meant old) (store old.pages) (store new.pages) (ToPoint tree (Insert key value)) e → (slots : ℕ → Option CallInFlight) (given : ℕ) → MayRefuse (State_of old slots given) (store old.pages) (store new.pages) (ToPoint tree (Insert key value)) e
      may_slots e may slots given = record { is = go (must_refuse (db_state store meant old) (ToPoint tree (Insert key value))) may.is }
        where
          cause : (e : Error) → cause_of (db_state store meant old) (store old.pages) (store new.pages) (ToPoint tree (Insert key value)) e → cause_of (State_of old slots given) (store old.pages) (store new.pages) (ToPoint tree (Insert key value)) e
          cause error.NoMemory k = tt
          cause other k = k

          go : (o : Option MustRefuse) → may_refuse_as o (cause_of (db_state store meant old) (store old.pages) (store new.pages) (ToPoint tree (Insert key value))) e → may_refuse_as o (cause_of (State_of old slots given) (store old.pages) (store new.pages) (ToPoint tree (Insert key value))) e
          go None k = cause e k
          go (Some must) k = k

      pub put_not : (there : Bool) → there ≡ false → ReadsMap store meant old tree (λ map. there ≡ is_some (find key_cmp key map)) → (e : Error) → PointRefused store meant old tree (Insert key value) e new → PartsStopped store meant old (Puts tree.name key value ∷ []) 0 e new
      put_not there off r e p = stops_at old new (Puts tree.name key value) e (λ slots given. ap (with_slots slots given) p.refuses.is)
          (λ slots given. inr (inr (is_absent slots given there off r, subst (λ t. MayRefuse (State_of old slots given) (store old.pages) (store new.pages) (ToPoint t (Insert key value)) e) (is_now.is ∙ at_slots old slots given tree.name) (may_slots e p.refuses.may slots given))))
          p.conducts.acts p.conducts.leaves (grows_pages old new p.conducts.same)
          (record { is = inr (inr (record { absent = is_absent (λ n. None) 0 there off r; refused = subst (λ t. PointRefused store meant old t (Insert key value) e new) is_now.is p })) })

    -- the key was not looked for
    read_cause : (e : Error) → stops_reading store meant old tree once e → unread_as None (store old.pages) e
    read_cause error.NoMemory k = tt
    read_cause (error.Io fault) k = (k.0, k.1)
    read_cause (error.ReportableBug text) k = k.0
    read_cause other k = k

    read_not : (o : Option MustRefuse) (e : Error) → refuses_reading_as store meant old tree once o e → unread_as o (store old.pages) e
    read_not None e k = read_cause e k
    read_not (Some must) e k = k

    pub put_unread : (e : Error) → RefusesReading store meant old tree once e → GivesUpGet store meant old tree key e → PartsStopped store meant old (Puts tree.name key value ∷ []) 0 e old
    put_unread e r g = stops_at old old (Puts tree.name key value) e (λ slots given. refl)
        (λ slots given. inr (inl (subst (λ t. unread_as (must_refuse_of (State_of old slots given) (t ∷ [])) (store old.pages) e) (is_now.is ∙ at_slots old slots given tree.name) (read_not (must_refuse_of (db_state store meant old) (tree ∷ [])) e r.is))))
        (pop_unread store meant old tree (min_is tree) once e r).acts (leaves_none store meant old) refl
        (record { is = inr (inl (record { refuses = subst (λ t. RefusesReading store meant old t once e) is_now.is r; gives_up = subst (λ t. GivesUpGet store meant old t key e) is_now.is g; same = refl })) })

    -- the key is present
    pub put_present : (text : Bor Key) → text.now ≡ OVERWRITES_DATA.now → (there : Bool) → there ≡ true → ReadsMap store meant old tree (λ map. there ≡ is_some (find key_cmp key map)) → PartsStopped store meant old (Puts tree.name key value ∷ []) 0 (error.Unsupported text) old
    put_present text is there on r =
        let v = value_of (find key_cmp key r.named.map) (sym r.is ∙ on) in
        stops_at old old (Puts tree.name key value) (error.Unsupported text) (λ slots given. refl)
        (λ slots given. inl (is, v.0, record { named = r.named; there = r.there; is = v.1 }))
        (store old.pages, NoAction, refl) (leaves_none store meant old) refl (record { is = inl ((is, v.0, record { named = r.named; there = r.there; is = v.1 }), refl) })

  -- ---- pairs, and collections

  -- a part of these pairs were put and counted, and the others are left
  pub record PutSoFar (old : DbValue P M) (tree : Tree) (pairs left : List (Key × Key)) (number : ℕ) (d : DbValue P M) : Type 0 where
    pub done : List Part
    pub told : number ≡ told_parts (length done)
    pub rest : puts_of tree.name pairs [] ≡ done ++ puts_of tree.name left []
    pub does : PartsDone store meant old done d
    pub is_now : IsTreeNow store meant d tree

  module _ (old : DbValue P M) (tree : Tree) (pairs : List (Key × Key)) where
    pub put_first : IsTreeNow store meant old tree → PutSoFar old tree pairs pairs 0 old
    put_first is_now = record { done = []; told = refl; rest = refl; does = done_none old; is_now = is_now }

    module _ (left : List (Key × Key)) {number : ℕ} (d : DbValue P M) (k : PutSoFar old tree pairs left number d) where
      all_done : left ≡ [] → puts_of tree.name pairs [] ≡ k.done
      all_done e = k.rest ∙ ap (λ l. k.done ++ puts_of tree.name l []) e ∙ append-nil k.done

      pub put_all : left ≡ [] → PartsDone store meant old (puts_of tree.name pairs []) d
      put_all e = subst (λ ps. PartsDone store meant old ps d) (sym (all_done e)) k.does

      pub put_all_told : left ≡ [] → number ≡ told_parts (length (puts_of tree.name pairs []))
      put_all_told e = k.told ∙ ap (λ ps. told_parts (length ps)) (sym (all_done e))

      module _ (db : IsDb store d) (pair : Key × Key) (more : List (Key × Key)) (e : left ≡ pair ∷ more) where
        rest_is : puts_of tree.name pairs [] ≡ (k.done ++ Puts tree.name pair.0 pair.1 ∷ []) ++ puts_of tree.name more []
        rest_is = k.rest ∙ ap (λ l. k.done ++ puts_of tree.name l []) e ∙ sym (append_assoc k.done (Puts tree.name pair.0 pair.1 ∷ []) (puts_of tree.name more []))

        pub put_more : (new : DbValue P M) → PartsDone store meant d (Puts tree.name pair.0 pair.1 ∷ []) new → IsTreeNow store meant new tree → (now_told : ℕ) → now_told ≡ min (number + 1) most_parts → PutSoFar old tree pairs more now_told new
        put_more new p is_now now_told counted = record {
          done = k.done ++ Puts tree.name pair.0 pair.1 ∷ [];
          told = told_then (length k.done) 1 number 1 now_told k.told refl counted ∙ ap told_parts (sym (length-append k.done (Puts tree.name pair.0 pair.1 ∷ [])));
          rest = rest_is;
          does = done_then old d new k.done (Puts tree.name pair.0 pair.1 ∷ []) k.does db p;
          is_now = is_now;
        }

        pub put_stopped : (x : Error) (new : DbValue P M) → PartsStopped store meant d (Puts tree.name pair.0 pair.1 ∷ []) 0 x new → PartsStoppedAfter store meant old (puts_of tree.name pairs []) number x new
        put_stopped x new p = record {
          count = length k.done + 0;
          told = k.told ∙ ap told_parts (sym (add-zero (length k.done)));
          is = subst (λ ps. PartsStopped store meant old ps (length k.done + 0) x new) (sym rest_is)
              (stops_more old new (k.done ++ Puts tree.name pair.0 pair.1 ∷ []) (puts_of tree.name more []) x (stops_then old d new k.done (Puts tree.name pair.0 pair.1 ∷ []) x k.does db p));
        }

  -- some of these collections are in, their parts are counted, and the others are left
  pub record ImportedSoFar (old : DbValue P M) (all left : List Content) (number : ℕ) (d : DbValue P M) : Type 0 where
    pub done : List Part
    pub told : number ≡ told_parts (length done)
    pub rest : parts_of all ≡ done ++ parts_of left
    pub does : PartsDone store meant old done d

  module _ (old : DbValue P M) (all : List Content) where
    pub imported_first : ImportedSoFar old all all 0 old
    imported_first = record { done = []; told = refl; rest = refl; does = done_none old }

    module _ (left : List Content) {number : ℕ} (d : DbValue P M) (k : ImportedSoFar old all left number d) where
      every_done : left ≡ [] → parts_of all ≡ k.done
      every_done e = k.rest ∙ ap (λ l. k.done ++ parts_of l) e ∙ append-nil k.done

      pub imported_all : left ≡ [] → PartsDone store meant old (parts_of all) d
      imported_all e = subst (λ ps. PartsDone store meant old ps d) (sym (every_done e)) k.does

      pub imported_parts : left ≡ [] → ImportsParts all number
      imported_parts e = record { told = k.told ∙ ap (λ ps. told_parts (length ps)) (sym (every_done e)) }

      module _ (db : IsDb store d) (c : Content) (more : List Content) (e : left ≡ c ∷ more) where
        next_is : parts_of all ≡ (k.done ++ parts_of (c ∷ [])) ++ parts_of more
        next_is = k.rest ∙ ap (λ l. k.done ++ parts_of l) e ∙ ap (λ ps. k.done ++ ps) (parts_first c more) ∙ sym (append_assoc k.done (parts_of (c ∷ [])) (parts_of more))

        pub imported_more : (new : DbValue P M) → PartsDone store meant d (parts_of (c ∷ [])) new → (these now_told : ℕ) → these ≡ told_parts (length (parts_of (c ∷ []))) → now_told ≡ min (number + these) most_parts → ImportedSoFar old all more now_told new
        imported_more new p these now_told are counted = record { done = k.done ++ parts_of (c ∷ []); told = told_then (length k.done) (length (parts_of (c ∷ []))) number these now_told k.told are counted ∙ ap told_parts (sym (length-append k.done (parts_of (c ∷ [])))); rest = next_is; does = done_then old d new k.done (parts_of (c ∷ [])) k.does db p }

        pub imported_stopped : (x : Error) (new : DbValue P M) (these now_told : ℕ) → PartsStoppedAfter store meant d (parts_of (c ∷ [])) these x new → now_told ≡ min (number + these) most_parts → PartsStoppedAfter store meant old (parts_of all) now_told x new
        imported_stopped x new these now_told p counted = record {
          count = length k.done + p.count;
          told = told_then (length k.done) p.count number these now_told k.told p.told counted;
          is = subst (λ ps. PartsStopped store meant old ps (length k.done + p.count) x new) (sym next_is)
              (stops_more old new (k.done ++ parts_of (c ∷ [])) (parts_of more) x (stops_then old d new k.done (parts_of (c ∷ [])) x k.does db p.is));
        }

  -- ---- the whole import

  module _ (old : DbValue P M) (all : List Content) where
    -- the database is closed
    pub import_closed : (now (store old.pages)).in_group ≡ true → ImportRefusedAfter store meant old all 0 error.Closed old
    import_closed e = record {
      is = record {
        maps = [];
        refuses = inl (subst (λ o. may_refuse_as o (cause_of_import all) error.Closed) (sym (ap (λ b. first_of (cond (not b) None (Some IsClosed)) None) e)) refl, refl, refl);
        acts = (store old.pages, NoAction, refl);
        leaves = leaves_none store meant old;
        same = refl;
        tested = λ must. refl;
      };
      told = refl;
    }

    module _ (no_group : (now (store old.pages)).in_group ≡ false) where
      open_is : (slots : ℕ → Option CallInFlight) (given : ℕ) → must_refuse_of (State_of old slots given) [] ≡ None
      open_is slots given = ap (λ b. first_of (cond (not b) None (Some IsClosed)) None) no_group

      -- some collection is of another type
      pub import_unknown : are_trees all ≡ false → (text : Bor Key) → text.now ≡ UNKNOWN_COLLECTION_TYPE.now → ImportRefusedAfter store meant old all 0 (error.Unsupported text) old
      import_unknown off text is = record {
        is = record {
          maps = [];
          refuses = inl (subst (λ o. may_refuse_as o (cause_of_import all) (error.Unsupported text)) (sym (open_is (λ n. None) 0)) (is, off), refl, refl);
          acts = (store old.pages, NoAction, refl);
          leaves = leaves_none store meant old;
          same = refl;
          tested = λ must. refl;
        };
        told = refl;
      }

      module _ (trees : are_trees all ≡ true) (new : DbValue P M) where
        pub import_done : PartsDone store meant old (parts_of all) new → ImportDecided store meant old all new
        import_done k = record {
          maps = k.maps;
          decides = λ slots given. record { free = open_is slots given; trees = trees; does = k.does slots given };
          acts = k.acts;
          leaves = k.leaves;
          same = k.same;
        }

        pub import_stopped : (number : ℕ) (e : Error) → PartsStoppedAfter store meant old (parts_of all) number e new → ImportRefusedAfter store meant old all number e new
        import_stopped number e after = let k = after.is in record {
          is = record {
            maps = k.maps;
            refuses = inr (record {
              stop = k.stop;
              mid = k.mid;
              state = λ slots given. record { free = open_is slots given; trees = trees; all_parts = k.all_parts; does = k.does slots given; refuses = k.refuses slots given };
              stays = k.stays;
              did = k.did;
              refused = k.refused;
            });
            acts = k.acts;
            leaves = k.leaves;
            same = k.same;
            tested = λ must. absurd (must (open_is (λ n. None) 0));
          };
          told = after.told ∙ ap told_parts k.counted;
        }

  -- ---- the same of the call that a machine makes

  module _ (old new : DbValue P M) (collections : Vec (Vec ℕ × Vec ℕ × Vec (Key × Key))) where
    pub import_whole : ImportDecided store meant old (contents_of collections.items) new → WholeDecided store meant old (Import collections) told.Done new
    import_whole k = record { maps = k.maps; decides = λ slots given number. (refl, k.decides slots given); acts = k.acts; leaves = k.leaves; same = k.same }

    refused_whole : (all : List Content) (e : Error) (maps : List Maps) → (may_refuse_as (must_refuse_of (db_state store meant old) []) (cause_of_import all) e × (new ≡ old) × (maps ≡ [])) ⊎ ImportStops store meant old all e new maps
        → (slots : ℕ → Option CallInFlight) (given : ℕ) → (may_refuse_as (must_refuse_of (State_of old slots given) []) (cause_of_import all) e × (State_of new slots given ≡ State_of old slots given) × (maps ≡ []))
        ⊎ ((stop : Stop) × StopsAtPart (State_of old slots given) (store old.pages) (store new.pages) all stop e (State_of new slots given) maps)
    refused_whole all e maps (inl (cause, same, none)) slots given = inl (cause, ap (λ (d : DbValue P M). State_of d slots given) same, none)
    refused_whole all e maps (inr s) slots given =
        inr (s.stop, subst (λ (z : State). StopsAtPart (State_of old slots given) (store old.pages) (store new.pages) all s.stop e z maps) (sym (s.stays slots given)) (s.state slots given))

    pub import_whole_refused : (e : Error) → ImportRefused store meant old (contents_of collections.items) e new → WholeRefused store meant old (Import collections) e new
    import_whole_refused e k = record {
      maps = k.maps;
      refuses = refused_whole (contents_of collections.items) e k.maps k.refuses;
      acts = k.acts;
      leaves = k.leaves;
      same = k.same;
      tested = λ must. k.tested (λ none. must (first_alone (must_refuse_of (db_state store meant old) []) ∙ none));
    }

-- ---- the same, of what calls answer

-- what holds where a result is no error, and of the error that it is
pub done_here : {T : Type 0} (r : Result (Unit {0}) Error) → ((x : Error) → r ≢ Err x) → OnOk r T → T
done_here (Ok u) fine t = t
done_here (Err e) fine t = absurd (fine e refl)

pub stopped_here : (p : Error → Type 0) (r : Result (Unit {0}) Error) (x : Error) → r ≡ Err x → IfErr r p → p x
stopped_here p r x e t = subst (λ z. IfErr z p) e t

module _ {P M : Type 0} (store : P → Store) (meant : M → Merge) where
  -- a collection's pairs, after its tree was opened
  module _ (old mid new : DbValue P M) (name : Key) (tree : Tree) (w : WholeDecided store meant old (OpenTree name) (told.Tree tree) mid) (s : OpensBySteps store name old mid) (db : IsDb store mid) (pairs : List (Key × Key)) where
    pub collection_done : (r : Result (Unit {0}) Error) → OnOk r (PartsDone store meant mid (puts_of tree.name pairs []) new) → OnOk r (PartsDone store meant old (OpensName name ∷ puts_of name pairs []) new)
    collection_done (Ok u) k = done_then store meant old mid new (OpensName name ∷ []) (puts_of name pairs []) (opened_done store meant old mid name tree w s) db (subst (λ n. PartsDone store meant mid (puts_of n pairs []) new) (opened_name store meant old mid name tree w) k)
    collection_done (Err e) k = tt

    pub collection_stopped : (number more : ℕ) → more ≡ min (number + 1) most_parts → (r : Result (Unit {0}) Error) → IfErr r (λ e. PartsStoppedAfter store meant mid (puts_of tree.name pairs []) number e new) → IfErr r (λ e. PartsStoppedAfter store meant old (OpensName name ∷ puts_of name pairs []) more e new)
    collection_stopped number more counted (Ok u) k = tt
    collection_stopped number more counted (Err e) k =
        let after = subst (λ n. PartsStoppedAfter store meant mid (puts_of n pairs []) number e new) (opened_name store meant old mid name tree w) k in record {
          count = 1 + after.count;
          told = told_before after.count number more after.told counted;
          is = stops_then store meant old mid new (OpensName name ∷ []) (puts_of name pairs []) e (opened_done store meant old mid name tree w s) db after.is;
        }

    -- .. and how many parts that were
    pub collection_told : (number more : ℕ) → more ≡ min (number + 1) most_parts → (r : Result (Unit {0}) Error) → OnOk r (number ≡ told_parts (length (puts_of tree.name pairs []))) → OnOk r (more ≡ told_parts (length (OpensName name ∷ puts_of name pairs [])))
    collection_told number more counted (Ok u) k = told_one (length (puts_of name pairs [])) number more (subst (λ n. number ≡ told_parts (length (puts_of n pairs []))) (opened_name store meant old mid name tree w) k) counted
    collection_told number more counted (Err e) k = tt

  pub collection_unopened : (old new : DbValue P M) (name : Key) (pairs : List (Key × Key)) (e : Error) → WholeRefused store meant old (OpenTree name) e new → OpenRefusedBySteps store name old e new → PartsStoppedAfter store meant old (OpensName name ∷ puts_of name pairs []) 0 e new
  collection_unopened old new name pairs e w s = record { count = 0; told = refl; is = stops_more store meant old new (OpensName name ∷ []) (puts_of name pairs []) e (opened_not store meant old new name e w s) }

-- ---- where a key and a value were read

module _ {P M : Type 0} (store : P → Store) (meant : M → Merge) (old new : DbValue P M) (tree : Tree) (k key v value : Key) (is_key : k ≡ key) (is_value : v ≡ value) where
  pub decided_of : (reply : Reply) → PointDecided store meant old tree (Insert k v) reply new → PointDecided store meant old tree (Insert key value) reply new
  decided_of reply p = subst (λ z. PointDecided store meant old tree (Insert z value) reply new) is_key (subst (λ z. PointDecided store meant old tree (Insert k z) reply new) is_value p)

  pub refused_of : (e : Error) → PointRefused store meant old tree (Insert k v) e new → PointRefused store meant old tree (Insert key value) e new
  refused_of e p = subst (λ z. PointRefused store meant old tree (Insert z value) e new) is_key (subst (λ z. PointRefused store meant old tree (Insert k z) e new) is_value p)

-- ---- what is left of lists

pub contents_left : (xs : List (Vec ℕ × Vec ℕ × Vec (Key × Key))) (i : ℕ) (x : Vec ℕ × Vec ℕ × Vec (Key × Key)) → i < length xs → x ≡ get_or xs i x → contents_of (drop i xs) ≡ content_of x ∷ contents_of (drop (i + 1) xs)
contents_left xs i x h e = ap contents_of (left_from xs i x h e)

pub none_left : {A : Type 0} (xs : List A) (i : ℕ) → length xs ≤ i → drop i xs ≡ []
none_left xs i h = drop_all i xs h
