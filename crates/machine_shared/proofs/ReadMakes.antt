-- Reads of a state: what they tell is so, and they keep what holds of it.
use Rattle.std.proofs.Common.{◌≡◌, ◌∙◌, ℕ, true, false, List, [], ◌∷◌, ◌++◌, length, map, codes, not, Option, Some, None, option_map, is_some, Result, Ok, Err, IfOk, OnErr, OnOk, sym, refl, ap, subst, inl, inr}
use Rattle.sled_nodes.proofs.Basics.{and_true, false_true}
use Rattle.sled_nodes.specs.Order.{Key, key_cmp}
use Rattle.std.specs.FinMap.Entries.{is_sorted}
use Rattle.sled_nodes.specs.declared.error.Error.{Error}
use Rattle.sled_store.specs.In.{In}
use Rattle.sled_store.specs.Store.{Store, now}
use Rattle.sled_store.specs.theory.Facts.{name_itself}
use Rattle.tree_laws.specs.Contents.{trees_of}
use Rattle.tree_pages.specs.Export.{collections}
use Rattle.sled_model.specs.Collections.{Content, are_trees}
use Rattle.sled_model.specs.Maps.{Map, Maps, Merge}
use Rattle.sled_model.specs.State.{NamedTree, maps_of}
use Rattle.sled_model.specs.declared.tree.Tree.{Tree}
use Rattle.sled.proofs.Grouped.{tested_open}
use Rattle.sled.proofs.Naming.{names_are}
use Rattle.sled.specs.Names.{AreNames, Ascend}
use Rattle.sled.specs.Reads.{ReadsMap}
use Rattle.sled.specs.Sound.{IsDb, MapsAscend}
use Rattle.sled.specs.Values.{DbValue, db_state}
use Rattle.machine_alone.specs.Values.{MachineValue}
use Rattle.machine_alone.proofs.Rising.{at_most}
use Rattle.machine_shared.specs.Made.{EntryValue, MadeValue, ReadMade}
use Rattle.machine_shared.specs.Notes.{entries_of}
use Rattle.machine_shared.specs.Reads.{answers_as, page_of, reads_as, AnswersIn, NamesIn, IsAnswerTo}
use Rattle.machine_shared.specs.Sound.{CrashLeaves, IsOpen, IsState, maps_now}
use Rattle.machine_shared.specs.declared.read.Answer.{Answer}
use Rattle.machine_shared.specs.declared.read.Question.{Question}
use Rattle.machine_shared.specs.declared.read.Question.TheVariants as asks
use Rattle.machine_shared.specs.declared.read.Read.{Read}
use Rattle.machine_shared.specs.declared.read.Read.TheVariants as read
use Rattle.machine_shared.specs.UnderLock.{ReadsNow, read_made}
use Rattle.machine_shared.specs.theory.Reading.{NotesRead}
use Rattle.machine_shared.specs.Values.{OpeningValue}
use Rattle.machine_shared.proofs.Ids.{longer_rises}
use Rattle.machine_shared.proofs.Moments.{GoesOn}
use Rattle.machine_shared.proofs.Leading.{GoesTo, adds, rests, once_more, legal_of, leads_of}
use Rattle.machine_shared.proofs.Legal.{maps_same}
use Rattle.machine_shared.proofs.OpeningMaps.{opened}
use Rattle.machine_shared.proofs.Parts.{page_part}
use Rattle.machine_shared.proofs.WholeMakes.{there_map}
use Rattle.machine_shared.proofs.WholeTests.{open_passes}

-- ---- what is told is so

-- collections of trees, in the order of those
all_trees : (maps : Maps) (trees : List (Key × ℕ)) → are_trees (collections maps trees) ≡ true
all_trees maps [] = refl
all_trees maps (t ∷ ts) = and_true _ _ (name_itself (codes "tree")) (all_trees maps ts)

names_of_all : (maps : Maps) (trees : List (Key × ℕ)) → map (λ (c : Content). c.1) (collections maps trees) ≡ map (λ r. r.0) trees
names_of_all maps [] = refl
names_of_all maps (t ∷ ts) = ap (λ l. t.0 ∷ l) (names_of_all maps ts)

module _ {P M : Type 0} (store : P → Store) (meant : M → Merge) (m : MachineValue P M) where
  same_maps : maps_of (db_state store meant m.db) ≡ maps_now store m
  same_maps = maps_same store meant m (λ p. 0)

  -- a database that is read is open
  opens : (trees : List Tree) (it : Read) → ReadsNow store meant m trees it → IsOpen store m
  opens trees it r = tested_open (db_state store meant m.db) trees r.tested

  -- an answer by the map of a tree
  pub answered : (tree : Tree) (question : Question) (answer : Answer) → ReadsMap store meant m.db tree (λ map. answers_as map question answer) → ReadsNow store meant m (tree ∷ []) (read.Tree tree question answer)
  answered tree question answer r = record {
    tested = r.tested;
    tells = subst (λ maps. AnswersIn maps tree question answer) same_maps (record { map = r.named.map; there = there_map (db_state store meant m.db) tree.name r.named r.there; is = r.is });
  }

  -- the names of the trees
  pub named : (names : List Key) → AreNames (db_state store meant m.db) names → ReadsNow store meant m [] (read.Names names)
  named names a = record {
    tested = open_passes (db_state store meant m.db) a.is_open;
    tells = subst (λ maps. NamesIn maps names) same_maps (record {
      ascend = a.ascend;
      each = λ name i. let t = a.each name i in ap (λ o. is_some (option_map (λ (t : NamedTree). t.map) o)) t.1;
      all = λ name e. go name ((db_state store meant m.db).trees name) refl e;
    });
  }
    where
      go : (name : Key) (o : Option NamedTree) → (db_state store meant m.db).trees name ≡ o → is_some (option_map (λ (t : NamedTree). t.map) ((db_state store meant m.db).trees name)) ≡ true → In name names
      go name (Some t) there e = a.all name t there
      go name None there e = false_true (sym (ap (λ o. is_some (option_map (λ (t : NamedTree). t.map) o)) there) ∙ e)

  pub all_named : (r : Result (List Key) Error) → IfOk r (AreNames (db_state store meant m.db)) → IfOk r (λ names. ReadsNow store meant m [] (read.Names names))
  all_named (Ok names) a = named names a
  all_named (Err e) a = tt

  -- the collections of an export
  pub exported : (all : List Content) → IsDb store m.db → (now (store m.db.pages)).in_group ≡ false → all ≡ collections (trees_of (now (store m.db.pages))) m.db.trees → ReadsNow store meant m [] (read.Export all)
  exported all sound opens is = record {
    tested = open_passes (db_state store meant m.db) (ap not opens);
    tells = record {
      trees = ap are_trees is ∙ all_trees (trees_of (now (store m.db.pages))) m.db.trees;
      ascend = subst Ascend (sym (ap (map (λ (c : Content). c.1)) is ∙ names_of_all (trees_of (now (store m.db.pages))) m.db.trees)) (names_are store meant m.db sound opens (map (λ r. r.0) m.db.trees) refl).ascend;
      is = sym (opened store m.db sound all is m refl);
    };
  }

  pub all_exported : (r : Result (List Content) Error) → IsDb store m.db → OnOk r ((now (store m.db.pages)).in_group ≡ false) → IfOk r (λ all. all ≡ collections (trees_of (now (store m.db.pages))) m.db.trees) → IfOk r (λ all. ReadsNow store meant m [] (read.Export all))
  all_exported (Ok all) sound opens is = exported all sound opens is
  all_exported (Err e) sound opens is = tt

-- the kind of an answer
kind_as : (map : Map) → is_sorted key_cmp map ≡ true → (question : Question) (answer : Answer) → answers_as map question answer → IsAnswerTo question answer
kind_as map s (asks.Get key) answer a = (_, a)
kind_as map s (asks.ContainsKey key) answer a = (_, a)
kind_as map s asks.First answer a = (a.0, a.2)
kind_as map s asks.Last answer a = (a.0, a.2)
kind_as map s (asks.GetLt key) answer a = (a.0, a.2)
kind_as map s (asks.GetGt key) answer a = (a.0, a.2)
kind_as map s asks.Len answer a = (_, a)
kind_as map s asks.IsEmpty answer a = (a.0, a.2)
kind_as map s (asks.Page lo hi back most) answer a = record { pairs = page_of lo hi back most map; is = a; part = page_part lo hi back most map s }

pub is_answer : {P M : Type 0} (store : P → Store) (meant : M → Merge) (d : DbValue P M) (tree : Tree) (question : Question) (answer : Answer) → MapsAscend (maps_of (db_state store meant d)) → ReadsMap store meant d tree (λ map. answers_as map question answer) → IsAnswerTo question answer
is_answer store meant d tree question answer ascend r = kind_as r.named.map (ascend.is tree.name r.named.map (there_map (db_state store meant d) tree.name r.named r.there)) question answer r.is

-- what is noted of a read, by how it came out
module _ {P M A : Type 0} (store : P → Store) (meant : M → Merge) (m : MachineValue P M) (trees : List Tree) (reads : A → Read) where
  pub notes_read : (r : Result A Error) → IfOk r (λ a. ReadsNow store meant m trees (reads a)) → NotesRead store meant m (read_made reads r)
  notes_read (Ok a) so = inr (trees, reads a, refl, so)
  notes_read (Err e) so = inl refl

  pub notes_so : (r : Result A Error) (noted : List MadeValue) → IfOk r (λ a. noted ≡ ReadMade (reads a) ∷ []) → OnErr r (noted ≡ []) → IfOk r (λ a. ReadsNow store meant m trees (reads a)) → NotesRead store meant m noted
  notes_so (Ok a) noted ok err so = inr (trees, reads a, ok, so)
  notes_so (Err e) noted ok err so = inl err

-- ---- states

module _ {P M : Type 0} (store : P → Store) (number : P → ℕ) (meant : M → Merge) (m : MachineValue P M) (opening : OpeningValue) (history longer : List EntryValue) (before after : ℕ) (h : IsState store m opening history before) (counted : length longer ≡ after) where
  crashes_read : (n : ℕ) (trees : List Tree) (it : Read) → ReadsNow store meant m trees it → longer ≡ history ++ entries_of n (ReadMade it ∷ []) → (c : CrashLeaves store m opening.contents longer) × (c.earlier ≡ h.crashes.earlier) × GoesOn h.crashes.moments c.moments
  crashes_read n trees it r e =
      let l = h.crashes in
      adds store number meant m m opening.contents history l longer n (ReadMade it) l.last (l.last ∷ []) e
      (subst (λ maps. reads_as maps it) (sym (l.now (opens store meant m trees it r))) r.tells, refl)
      refl
      l.now
      (once_more store number meant m m opening.contents history l l.last refl l.leaves)

  crashes_none : longer ≡ history ++ [] → (c : CrashLeaves store m opening.contents longer) × (c.earlier ≡ h.crashes.earlier) × GoesOn h.crashes.moments c.moments
  crashes_none e = rests store number meant m m opening.contents history h.crashes longer e h.crashes.now h.crashes.leaves

  -- after a read, whether it was noted or not
  pub read_state : (n : ℕ) (noted : List MadeValue) → NotesRead store meant m noted → longer ≡ history ++ entries_of n noted → GoesTo h m longer after
  read_state n noted (inl none) e =
      let crashes = crashes_none (e ∙ ap (λ l. history ++ entries_of n l) none) in (
        record {
          legal = legal_of crashes.0;
          leads = leads_of crashes.0;
          crashes = crashes.0;
          covers = λ f. crashes.1 ∙ h.covers f;
          ids = longer_rises 0 m.db.greatest_id m.db.greatest_id history [] longer (e ∙ ap (λ l. history ++ entries_of n l) none) h.ids (at_most _ _ refl);
          counted = counted;
        },
        crashes.2,
      )
  read_state n noted (inr r) e =
      let longer_is = e ∙ ap (λ l. history ++ entries_of n l) r.2 in
      let crashes = crashes_read n r.0 r.1 r.3 longer_is in (
        record {
          legal = legal_of crashes.0;
          leads = leads_of crashes.0;
          crashes = crashes.0;
          covers = λ f. crashes.1 ∙ h.covers f;
          ids = longer_rises 0 m.db.greatest_id m.db.greatest_id history (entries_of n (ReadMade r.1 ∷ [])) longer longer_is h.ids (at_most _ _ refl);
          counted = counted;
        },
        crashes.2,
      )
