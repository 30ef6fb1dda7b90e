-- What a history leads to, and what a crash may leave on its way, at every step.
use Rattle.std.proofs.Common.{◌≡◌, ◌∙◌, ℕ, zero, suc, Bool, true, false, not, cond, List, [], ◌∷◌, ◌++◌, append-nil, append_assoc, length, map, Option, Some, None, Result, Ok, Err, IfOk, IfErr, is_some, is_eq, sym, refl, ap, subst, ◌⊎◌, inl, inr, arith}
use Rattle.std.specs.Prelude.{is_none}
use Rattle.std.proofs.lemmas.List.{length-append, map-append}
use Rattle.std.proofs.lemmas.Cmp.{tied_itself}
use Rattle.std.specs.FinMap.Entries.{find, find-where_key}
use Rattle.std.specs.Ordering.{eq_by_cmp}
use Rattle.sled_nodes.proofs.Basics.{none_some, key_total, key_same}
use Rattle.sled_nodes.specs.Node.{without}
use Rattle.sled_nodes.specs.Order.{Key, key_cmp}
use Rattle.sled_nodes.specs.Ranges.{Range}
use Rattle.sled_nodes.specs.declared.error.Error.{Error}
use Rattle.sled_store.specs.Crash.{crash_states}
use Rattle.sled_store.specs.Store.{Store, now}
use Rattle.sled_store.specs.Update.{put_name}
use Rattle.sled_store.specs.theory.Facts.{now_left, put_name_here}
use Rattle.tree_laws.specs.Contents.{trees_of}
use Rattle.tree_pages.specs.Export.{collections}
use Rattle.tree_laws.specs.Crashes.{StutterEquivalent}
use Rattle.tree_laws.proofs.Crashing.{matches_same, matches_back, matches_append, matches_then, matches_again}
use Rattle.sled_model.specs.Answer.{answer_of, map_after, key_of}
use Rattle.sled_model.specs.Collections.{Content, contents_of}
use Rattle.sled_model.specs.Groups.{Closes}
use Rattle.sled_model.specs.Imports.{Part, OpensName, Puts, DoesParts, NoPart, OnePart, does_part_as}
use Rattle.sled_model.specs.Maps.{Map, Maps, Merge}
use Rattle.sled_model.specs.Refusal.{Asked, ToStep, ToCall, must_refuse, must_refuse_of, trees_asked, trees_of_batches, cause_of_import, may_refuse_as}
use Rattle.sled_model.specs.State.{State, NamedTree, maps_of, range_of}
use Rattle.sled_model.specs.Transition.{transition_as, Decide, does_of}
use Rattle.sled_model.specs.Whole.{RemovesLeast, RemovesNone, RemovesOne, StopsClearing, state_opened, maps_if, state_dropped}
use Rattle.sled_model.specs.declared.call.Call.{Call}
use Rattle.sled_model.specs.declared.call.Call.TheVariants.{Remove}
use Rattle.sled_model.specs.declared.call.Whole.{Whole}
use Rattle.sled_model.specs.declared.call.Whole.TheVariants.{Flush, PopMin, PopMax, Clear, Group, OpenTree, DropTree, GenerateId, Import, Watch, Next, Unsubscribe}
use Rattle.sled_model.specs.declared.decision.Effect.TheVariants as effect
use Rattle.sled_model.specs.declared.outcome.Outcome.{Outcome}
use Rattle.sled_model.specs.declared.outcome.Outcome.TheVariants as outcome
use Rattle.sled_model.specs.declared.outcome.Step.TheVariants as step
use Rattle.sled_model.specs.declared.reply.Reply.{Reply}
use Rattle.sled_model.specs.declared.reply.Reply.TheVariants.{Done}
use Rattle.sled_model.specs.declared.tree.Tree.{Tree}
use Rattle.sled_model.proofs.Tests.{first_none}
use Rattle.sled.specs.Imports.{ImportStops}
use Rattle.sled.specs.Parts.{told_parts, parts_before, ClearsParts}
use Rattle.sled.specs.Sound.{IsDb}
use Rattle.sled.specs.Values.{DbValue, db_state, state_of}
use Rattle.sled.proofs.Grouped.{tested_open}
use Rattle.sled.proofs.Trees.{maps_are}
use Rattle.machine_alone.specs.CrashMaps.{AreCrashMaps, crash_maps_after}
use Rattle.machine_alone.specs.Kept.{counts_as}
use Rattle.machine_alone.specs.Step.{MachineStep, MachineStepContract}
use Rattle.machine_alone.specs.Values.{MachineValue, configuration_of, slots_of}
use Rattle.machine_alone.proofs.Runs.{extended}
use Rattle.machine_shared.specs.Crashes.{whole_through, through_as, left_by_whole, left_by, LeadsThrough, LeadsNoMore, LeadsOneMore}
use Rattle.machine_shared.specs.History.{MakesPoint, makes_as, IsLegal, NoEntries, OneEntry, maps_from}
use Rattle.machine_shared.specs.Moments.{AreMoments, LastMoment}
use Rattle.machine_shared.specs.Made.{EntryValue, MadeValue, PointMade, WholeMade, PartsMade, ReadMade, TransactionMade, whole_value}
use Rattle.machine_shared.specs.Notes.{entries_of, noted_as, noted_in}
use Rattle.machine_shared.specs.Sound.{IsOpen, maps_now, Leads, CrashLeaves, IsState}
use Rattle.machine_shared.specs.WholeMade.{map_with, TakesLeast, TakesNone, TakesOne, MakesParts, TakesThrough, TakesNoMore, TakesOneMore, MakesThrough, MakesNoMore, MakesOneMore, makes_whole_as}
use Rattle.machine_shared.specs.WholeNotes.{noted_with, noted_whole, ComesToWhole, NotesWhole}
use Rattle.machine_shared.specs.Wholes.{WholeValue}
use Rattle.machine_shared.specs.Wholes as value
use Rattle.machine_shared.specs.Values.{OpeningValue}
use Rattle.machine_shared.proofs.Ids.{begun_risen, abandoned_risen, none_risen}
use Rattle.machine_shared.proofs.OpeningMaps.{opened}
use Rattle.machine_shared.proofs.Moments.{GoesOn, moments_more, more_goes_on}
use Rattle.machine_shared.proofs.Legal.{point, scan_keeps, put_same, maps_same}
use Rattle.machine_shared.proofs.WholeMakes.{after_maps, there_map, makes, removes, removes_open, part, parts}

-- ---- lists of maps

-- these are the last of them
abbrev pub Ends : List Maps → Maps → Type 0
Ends left m = (before : List Maps) × (left ≡ before ++ m ∷ [])

-- the last ones once more
again : (left : List Maps) (m : Maps) → Ends left m → StutterEquivalent left (left ++ m ∷ [])
again left m e = subst (λ l. StutterEquivalent l (l ++ m ∷ [])) (sym e.1) (matches_again e.0 m)

pub matched : (s : Store) (xs ys : List Maps) → AreCrashMaps s xs → StutterEquivalent xs ys → AreCrashMaps s ys
matched s xs ys l e = record { is = matches_then l.is e }

-- ---- parts

takes_end : {name : Key} {a b : Maps} {through : List Maps} → TakesThrough name a through b → (left : List Maps) → Ends left a → Ends (left ++ through) b
takes_end {a = a} TakesNoMore left e = subst (λ l. Ends l a) (sym (append-nil left)) e
takes_end {name = name} {b = b} (TakesOneMore {a = a} {through = through} pair rest there more) left e =
    let m = put_name a name (Some (map_with (Remove pair.0) (pair ∷ rest))) in
    subst (λ l. Ends l b) (append_assoc left (m ∷ []) through) (takes_end more (left ++ m ∷ []) (left, refl))

makes_end : {a b : Maps} {ps : List Part} {through : List Maps} → MakesThrough a ps through b → (left : List Maps) → Ends left a → Ends (left ++ through) b
makes_end {a = a} MakesNoMore left e = subst (λ l. Ends l a) (sym (append-nil left)) e
makes_end {b = b} (MakesOneMore {m = m} {through = through} one more) left e = subst (λ l. Ends l b) (append_assoc left (m ∷ []) through) (makes_end more (left ++ m ∷ []) (left, refl))

-- a clear leads through the maps that it adds
takes : {tree : Tree} {a b : State} {n : ℕ} {maps : List Maps} → RemovesLeast tree a n b maps → TakesThrough tree.name (maps_of a) maps (maps_of b)
takes RemovesNone = TakesNoMore
takes {tree = tree} {b = z} (RemovesOne {a = a} {maps = maps} named pair rest there first more) =
    let same = after_maps a tree.name named (answer_of named.merge (Remove pair.0) named.map) ∙ ap (λ m. put_name (maps_of a) tree.name (Some (map_with (Remove pair.0) m))) first in
    subst (λ m. TakesThrough tree.name (maps_of a) (m ∷ maps) (maps_of z)) (sym same)
    (TakesOneMore pair rest (there_map a tree.name named there ∙ ap Some first) (subst (λ m. TakesThrough tree.name m maps (maps_of z)) same (takes more)))

-- and an import, which adds none where it opens a name that is there
abbrev pub GoesThrough : Maps → List Part → List Maps → Maps → Type 0
GoesThrough a ps maps b = (through : List Maps) × MakesThrough a ps through b × ((left : List Maps) → Ends left a → StutterEquivalent (left ++ maps) (left ++ through))

goes_new : (m : Maps) (left maps through : List Maps) → StutterEquivalent ((left ++ m ∷ []) ++ maps) ((left ++ m ∷ []) ++ through) → StutterEquivalent (left ++ m ∷ maps) (left ++ m ∷ through)
goes_new m left maps through e = subst (λ x. StutterEquivalent x (left ++ m ∷ through)) (append_assoc left (m ∷ []) maps) (subst (λ x. StutterEquivalent ((left ++ m ∷ []) ++ maps) x) (append_assoc left (m ∷ []) through) e)

goes_on : (a m b : State) (p : Part) (ps : List Part) (added maps : List Maps) → does_part_as a p m added → GoesThrough (maps_of m) ps maps (maps_of b) → GoesThrough (maps_of a) (p ∷ ps) (added ++ maps) (maps_of b)
goes_on a m b (Puts name key value) ps added maps d g = (
  maps_of m ∷ g.0,
  MakesOneMore (part a (Puts name key value) m added d) g.1,
  λ left e.
      subst (λ x. StutterEquivalent (left ++ (x ++ maps)) (left ++ maps_of m ∷ g.0)) (sym d.added) (goes_new (maps_of m) left maps g.0 (g.2 (left ++ maps_of m ∷ []) (left, refl))),
)
goes_on a m b (OpensName name) ps added maps d g = (
  maps_of m ∷ g.0,
  MakesOneMore (part a (OpensName name) m added d) g.1,
  λ left e.
      subst (λ x. StutterEquivalent (left ++ (x ++ maps)) (left ++ maps_of m ∷ g.0)) (sym d.1) (opened left e (a.trees name) d.0),
)
  where
    opened : (left : List Maps) → Ends left (maps_of a) → (o : Option NamedTree) → m ≡ state_opened o a name → StutterEquivalent (left ++ (maps_if (is_none o) m ++ maps)) (left ++ maps_of m ∷ g.0)
    opened left e None is = goes_new (maps_of m) left maps g.0 (g.2 (left ++ maps_of m ∷ []) (left, refl))
    opened left e (Some t) is =
        let ends : Ends left (maps_of m) = subst (λ x. Ends left x) (sym (ap maps_of is)) e in
        matches_then (g.2 left ends) (subst (λ x. StutterEquivalent (left ++ g.0) x) (append_assoc left (maps_of m ∷ []) g.0) (matches_append (again left (maps_of m) ends) (matches_same g.0)))

pub goes : {a b : State} {ps : List Part} {maps : List Maps} → DoesParts a ps b maps → GoesThrough (maps_of a) ps maps (maps_of b)
goes NoPart = ([], MakesNoMore, λ left e. matches_same (left ++ []))
goes {b = b} (OnePart {a = a} {m = m} {part = p} {parts = ps} {maps = maps} added one more) = goes_on a m b p ps added maps one (goes more)

-- ---- entries

through_end : (v : MadeValue) (a m : Maps) (through left : List Maps) → through_as a v through m → Ends left a → Ends (left_by v through left) m
through_end (PointMade tree call reply) a m through left t e = (left, ap (λ l. left ++ l) t)
through_end (WholeMade value.Flush reply) a m through left t e = ([], t)
through_end (WholeMade (value.Clear tree) reply) a m through left t e = takes_end t left e
through_end (WholeMade (value.Import all) reply) a m through left t e = makes_end t left e
through_end (WholeMade other reply) a m through left t e = (left, ap (λ l. left ++ l) t)
through_end (PartsMade (value.Clear tree) number) a m through left t e = takes_end t left e
through_end (PartsMade (value.Import all) number) a m through left t e = makes_end t.makes left e
through_end (PartsMade other number) a m through left t e = absurd t
through_end (ReadMade read) a m through left t e = (left, ap (λ l. left ++ l) t)
through_end (TransactionMade batches stood) a m through left t e = (left, ap (λ l. left ++ l) t)

pub leads_end : {a b : Maps} {left last : List Maps} {es : List EntryValue} → LeadsThrough a left es b last → Ends left a → Ends last b
leads_end LeadsNoMore e = e
leads_end (LeadsOneMore {a = a} {m = m} {left = left} {e = entry} through x y more) e = leads_end more (through_end entry.made a m through left y e)

leads_more : {a m b : Maps} {left last : List Maps} {es : List EntryValue} → LeadsThrough a left es m last → (entry : EntryValue) (through : List Maps) → makes_as m entry.made b → through_as m entry.made through b
    → LeadsThrough a left (es ++ entry ∷ []) b (left_by entry.made through last)
leads_more LeadsNoMore entry through p q = LeadsOneMore through p q LeadsNoMore
leads_more (LeadsOneMore other x y rest) entry through p q = LeadsOneMore other x y (leads_more rest entry through p q)

pub leads_legal : {a b : Maps} {left last : List Maps} {es : List EntryValue} → LeadsThrough a left es b last → IsLegal a es b
leads_legal LeadsNoMore = NoEntries
leads_legal (LeadsOneMore through x y more) = OneEntry x (leads_legal more)

-- ---- keys that were taken

-- a key that is not there is not there without another
without_none : (q k : Key) (m : Map) → find key_cmp q m ≡ None → find key_cmp q (without k m) ≡ None
without_none q k m e = find-where_key key_cmp (λ x. not (eq_by_cmp key_cmp k x)) q (λ x same. ap (λ z. not (eq_by_cmp key_cmp k z)) (sym (key_same q x same))) m ∙ go (not (eq_by_cmp key_cmp k q))
  where
    go : (b : Bool) → cond b (find key_cmp q m) None ≡ None
    go true = e
    go false = refl

-- .. nor after a removal of another
removed_none : (q k : Key) (m : Map) → find key_cmp q m ≡ None → find key_cmp q (map_with (Remove k) m) ≡ None
removed_none q k m e = go (is_some (find key_cmp k m))
  where
    go : (b : Bool) → find key_cmp q (map_after (cond b effect.Remove effect.Nothing) k m) ≡ None
    go true = without_none q k m e
    go false = e

-- the first key is there, and not after its removal
first_found : (pair : Key × Key) (rest : Map) → find key_cmp pair.0 (pair ∷ rest) ≡ Some pair.1
first_found pair rest = ap (λ o. cond (is_eq o) (Some pair.1) (find key_cmp pair.0 rest)) (tied_itself key_total pair.0)

first_gone : (pair : Key × Key) (rest : Map) → find key_cmp pair.0 (map_with (Remove pair.0) (pair ∷ rest)) ≡ None
first_gone pair rest = ap (λ o. find key_cmp pair.0 (map_after (cond (is_some o) effect.Remove effect.Nothing) pair.0 (pair ∷ rest))) (first_found pair rest) ∙ gone pair.0 (pair ∷ rest)
  where
    gone : (k : Key) (m : Map) → find key_cmp k (without k m) ≡ None
    gone k m = find-where_key key_cmp (λ x. not (eq_by_cmp key_cmp k x)) k (λ x same. ap (λ z. not (eq_by_cmp key_cmp k z)) (sym (key_same k x same))) m
        ∙ ap (λ o. cond (not (is_eq o)) (find key_cmp k m) None) (tied_itself key_total k)

abbrev found_in : Option Map → Key → Option Key
found_in None k = None
found_in (Some map) k = find key_cmp k map

stays_gone : {name : Key} {a b : Maps} {n : ℕ} (k : Key) → TakesLeast name a n b → found_in (a name) k ≡ None → found_in (b name) k ≡ None
stays_gone k TakesNone e = e
stays_gone {name = name} k (TakesOne {a = a} pair rest there more) e = stays_gone k more
    (ap (λ o. found_in o k) (put_name_here a name (Some (map_with (Remove pair.0) (pair ∷ rest)))) ∙ removed_none k pair.0 (pair ∷ rest) (ap (λ o. found_in o k) (sym there) ∙ e))

-- where keys were taken and the maps are as before there were none
takes_none : {name : Key} {a b : Maps} {n : ℕ} → TakesLeast name a n b → b ≡ a → n ≡ 0
takes_none TakesNone same = refl
takes_none {name = name} {b = b} (TakesOne {a = a} pair rest there more) same = none_some
    (sym (stays_gone pair.0 more (ap (λ o. found_in o pair.0) (put_name_here a name (Some (map_with (Remove pair.0) (pair ∷ rest)))) ∙ first_gone pair rest))
    ∙ ap (λ (m : Maps). found_in (m name) pair.0) same ∙ ap (λ o. found_in o pair.0) there ∙ first_found pair rest)

told_none : (n : ℕ) → 0 ≡ told_parts n → n ≡ 0
told_none n e = omega (arith, e)

told_some : {P : Type 0} (k n : ℕ) → suc k ≡ told_parts n → n ≡ 0 → P
told_some k n e z = absurd (omega (arith, e, z))

suc_zero : {n : ℕ} {P : Type 0} → suc n ≡ 0 → P
suc_zero e = cc

removes_none : {tree : Tree} {a b : State} {n : ℕ} {maps : List Maps} → RemovesLeast tree a n b maps → n ≡ 0 → (b ≡ a) × (maps ≡ [])
removes_none RemovesNone e = (refl, refl)
removes_none (RemovesOne named pair rest there first more) e = suc_zero e

parts_none : {a b : State} {ps : List Part} {maps : List Maps} → DoesParts a ps b maps → length ps ≡ 0 → (b ≡ a) × (maps ≡ [])
parts_none NoPart e = (refl, refl)
parts_none (OnePart added one more) e = suc_zero e

-- ---- steps

pub tested : (s : State) (asked : Asked) → must_refuse s asked ≡ None → s.is_open ≡ true
tested s asked free = tested_open s (trees_asked asked) (first_none _ _ free).0

module _ {P M : Type 0} (store : P → Store) (number : P → ℕ) (meant : M → Merge) (a b : MachineValue P M) (opening : List Content) (history : List EntryValue) (l : CrashLeaves store a opening history) where
  abbrev A : State
  A = (configuration_of store number meant a).state

  abbrev B : State
  B = (configuration_of store number meant b).state

  -- the state with the calls in flight that there were before, which changes no map
  abbrev C : State
  C = state_of store meant b.db (slots_of a.flights) a.slots_given

  -- .. and of the maps that a crash might have left before the opening none is forgotten, nor of those at the moments so far
  abbrev Leaves : List EntryValue → Type 0
  Leaves longer = (c : CrashLeaves store b opening longer) × (c.earlier ≡ l.earlier) × GoesOn l.moments c.moments

  abbrev Are : List Maps → Type 0
  Are maps = AreCrashMaps (store b.db.pages) maps

  pub ends : Ends l.left l.last
  ends = leads_end l.leads (l.earlier, refl)

  -- while the database is open the history leads to its maps
  pub led : A.is_open ≡ true → l.last ≡ maps_of A
  led o = l.now o ∙ sym (maps_same store meant a number)

  between : maps_of B ≡ maps_of C
  between = maps_same store meant b number ∙ sym (maps_same store meant (record { db = b.db; flights = a.flights; slots_given = a.slots_given }) number)

  -- one entry more
  pub adds : (longer : List EntryValue) (n : ℕ) (v : MadeValue) (new : Maps) (through : List Maps) → longer ≡ history ++ entries_of n (v ∷ []) → makes_as l.last v new → through_as l.last v through new
      → (IsOpen store b → new ≡ maps_now store b) → Are (left_by v through l.left) → Leaves longer
  adds longer n v new through e made led at leaves = (
    record {
      earlier = l.earlier;
      last = new;
      left = left_by v through l.left;
      leads = subst (λ es. LeadsThrough (maps_from opening) (l.earlier ++ maps_from opening ∷ []) es new (left_by v through l.left)) (sym e) (leads_more l.leads (record { by = n; made = v }) through made led);
      moments = l.moments ++ new ∷ [];
      are = subst (λ es. AreMoments (maps_from opening) es new (l.moments ++ new ∷ [])) (sym e) (moments_more l.are (record { by = n; made = v }) made);
      now = at;
      leaves = leaves;
    },
    refl,
    more_goes_on l.moments (new ∷ []),
  )

  -- .. or none
  pub rests : (longer : List EntryValue) → longer ≡ history ++ [] → (IsOpen store b → l.last ≡ maps_now store b) → Are l.left → Leaves longer
  rests longer e at leaves = (
    record {
      earlier = l.earlier;
      last = l.last;
      left = l.left;
      leads = subst (λ es. LeadsThrough (maps_from opening) (l.earlier ++ maps_from opening ∷ []) es l.last l.left) (sym (e ∙ append-nil history)) l.leads;
      moments = l.moments;
      are = subst (λ es. AreMoments (maps_from opening) es l.last l.moments) (sym (e ∙ append-nil history)) l.are;
      now = at;
      leaves = leaves;
    },
    refl,
    λ i m there. there,
  )

  -- where no map changes
  pub still : B.is_open ≡ A.is_open → maps_of B ≡ maps_of A → IsOpen store b → l.last ≡ maps_now store b
  still opens same o = led (sym opens ∙ o) ∙ sym same ∙ maps_same store meant b number

  pub none_added : (maps : List Maps) → maps ≡ [] → Are (l.left ++ maps) → Are l.left
  none_added maps e k = subst (λ x. Are x) (ap (λ z. l.left ++ z) e ∙ append-nil l.left) k

  pub once_more : (m : Maps) → m ≡ l.last → Are l.left → Are (l.left ++ m ∷ [])
  once_more m e k = matched (store b.db.pages) l.left (l.left ++ m ∷ []) k (again l.left m (subst (λ x. Ends l.left x) (sym e) ends))

  once_less : (m : Maps) → m ≡ l.last → Are (l.left ++ m ∷ []) → Are l.left
  once_less m e k = matched (store b.db.pages) (l.left ++ m ∷ []) l.left k (matches_back (again l.left m (subst (λ x. Ends l.left x) (sym e) ends)))

  -- a step of a slot that decides a call, and notes it, unless it is a scan
  module _ (longer : List EntryValue) (n slot : ℕ) (reply : Reply) (d : Decide A slot reply B) (notes : longer ≡ history ++ entries_of n (noted_in (outcome.Decided reply) (slots_of a.flights slot))) (k : Are (l.left ++ maps_of B ∷ [])) where
    was_open : A.is_open ≡ true
    was_open = tested A (ToStep d.flying) d.free

    point_here : MakesPoint (maps_of A) d.flying.tree d.flying.call reply (maps_of B)
    point_here = point A slot reply B d

    noted : (r : Option Range) → range_of d.flying.call ≡ r → longer ≡ history ++ entries_of n (noted_as r d.flying.tree d.flying.call reply)
    noted r e = notes ∙ ap (λ s. history ++ entries_of n (noted_in (outcome.Decided reply) s)) d.here ∙ ap (λ z. history ++ entries_of n (noted_as z d.flying.tree d.flying.call reply)) e

    decided : (r : Option Range) → range_of d.flying.call ≡ r → Leaves longer
    decided None e = adds longer n (PointMade d.flying.tree d.flying.call reply) (maps_of B) (maps_of B ∷ []) (noted None e) (subst (λ m. MakesPoint m d.flying.tree d.flying.call reply (maps_of B)) (sym (led was_open)) point_here) refl
        (λ o. maps_same store meant b number) k
    decided (Some r) e =
        let same : maps_of B ≡ maps_of A = point_here.is ∙ ap (λ m. put_name (maps_of A) d.flying.tree.name (Some m)) (scan_keeps d.flying.call r e _ point_here.decision point_here.comes (key_of d.flying.call) point_here.map) ∙ put_same (maps_of A) d.flying.tree.name point_here.map point_here.there in
        rests longer (noted (Some r) e) (still (ap (λ (s : State). s.is_open) d.is) same) (once_less (maps_of B) (same ∙ sym (led was_open)) k)

  pub step_leaves : (n slot : ℕ) (o : Outcome) (longer : List EntryValue) → MachineStep store number meant a (step.Step slot) o b → longer ≡ history ++ entries_of n (noted_in o (slots_of a.flights slot)) → Leaves longer
  step_leaves n slot o longer s e = go o s.maps s.step.is (s.keeps l.left l.leaves) e
    where
      go : (o : Outcome) (maps : List Maps) → transition_as (configuration_of store number meant a) (step.Step slot) o (configuration_of store number meant b) maps → Are (crash_maps_after (step.Step slot) o maps (maps_of B) l.left)
          → longer ≡ history ++ entries_of n (noted_in o (slots_of a.flights slot)) → Leaves longer
      go (outcome.Decided reply) maps t k e = decided longer n slot reply t.0 e (subst (λ x. Are (l.left ++ x)) t.1 k) (range_of t.0.flying.call) refl
      go (outcome.Begun i) maps t k e = absurd t
      go outcome.Abandoned maps t k e = absurd t
      go outcome.NoSuchSlot maps t k e = rests longer e (still (ap (λ (s : State). s.is_open) t.0.1) (ap maps_of t.0.1)) (none_added maps t.1 k)
      go other maps t k e = rests longer e (still (ap (λ (s : State). s.is_open) t.0.is) (ap maps_of t.0.is)) (none_added maps t.1 k)

  -- what notes nothing and changes no map: a begin, and the end of a call
  quietly : B.is_open ≡ A.is_open → maps_of B ≡ maps_of A → (maps : List Maps) → maps ≡ [] → Are (l.left ++ maps) → Leaves history
  quietly opens same maps none k = rests history (sym (append-nil history)) (still opens same) (none_added maps none k)

  pub begun_leaves : (tree : Tree) (call : Call) (slot : ℕ) → MachineStep store number meant a (step.Begin tree call) (outcome.Begun slot) b → Leaves history
  begun_leaves tree call slot s = quietly (ap (λ (s : State). s.is_open) s.step.is.0.is) (ap maps_of s.step.is.0.is) s.maps s.step.is.1 (s.keeps l.left l.leaves)

  pub unbegun_leaves : (tree : Tree) (call : Call) (x : Error) → MachineStep store number meant a (step.Begin tree call) (outcome.Refused x) b → Leaves history
  unbegun_leaves tree call x s = quietly (ap (λ (s : State). s.is_open) s.step.is.1) (ap maps_of s.step.is.1) s.maps s.step.is.2 (s.keeps l.left l.leaves)

  pub abandon_leaves : (slot : ℕ) (o : Outcome) → MachineStep store number meant a (step.Abandon slot) o b → Leaves history
  abandon_leaves slot o s = go o s.maps s.step.is (s.keeps l.left l.leaves)
    where
      go : (o : Outcome) (maps : List Maps) → transition_as (configuration_of store number meant a) (step.Abandon slot) o (configuration_of store number meant b) maps → Are (crash_maps_after (step.Abandon slot) o maps (maps_of B) l.left) → Leaves history
      go outcome.NoSuchSlot maps t k = quietly (ap (λ (s : State). s.is_open) t.0.1) (ap maps_of t.0.1) maps t.1 k
      go outcome.Abandoned maps t k = quietly (ap (λ (s : State). s.is_open) t.0.is) (ap maps_of t.0.is) maps t.1 k
      go other maps t k = absurd t

  -- ---- whole calls

  module _ (longer : List EntryValue) (n : ℕ) where
    -- what is decided on an open database
    pub entry : (v : WholeValue) (reply : Reply) (through : List Maps) → longer ≡ history ++ entries_of n (WholeMade v reply ∷ []) → A.is_open ≡ true → makes_whole_as (maps_of A) v reply (maps_of B) → whole_through (maps_of A) v through (maps_of B)
        → Are (left_by_whole v through l.left) → Leaves longer
    entry v reply through e opens made goes k = adds longer n (WholeMade v reply) (maps_of B) through e (subst (λ m. makes_whole_as m v reply (maps_of B)) (sym (led opens)) made) (subst (λ m. whole_through m v through (maps_of B)) (sym (led opens)) goes)
        (λ o. maps_same store meant b number) k

    -- what adds these maps and no others
    alone : (maps : List Maps) → maps ≡ maps_of B ∷ [] → Are (l.left ++ maps) → Are (l.left ++ maps_of B ∷ [])
    alone maps e k = subst (λ x. Are (l.left ++ x)) e k

    -- what adds none, and changes none
    unmoved : A.is_open ≡ true → maps_of B ≡ maps_of A → (maps : List Maps) → maps ≡ [] → Are (l.left ++ maps) → Are (l.left ++ maps_of B ∷ [])
    unmoved opens same maps none k = once_more (maps_of B) (same ∙ sym (led opens)) (none_added maps none k)

    opened_left : A.is_open ≡ true → (name : Key) (o : Option NamedTree) → B ≡ state_opened o A name → (maps : List Maps) → maps ≡ maps_if (is_none o) B → Are (l.left ++ maps) → Are (l.left ++ maps_of B ∷ [])
    opened_left opens name None is maps added k = alone maps added k
    opened_left opens name (Some t) is maps added k = unmoved opens (ap maps_of is) maps added k

    dropped_left : A.is_open ≡ true → (name : Key) (o : Option NamedTree) → B ≡ state_dropped o A name → (maps : List Maps) → maps ≡ maps_if (is_some o) B → Are (l.left ++ maps) → Are (l.left ++ maps_of B ∷ [])
    dropped_left opens name (Some t) is maps added k = alone maps added k
    dropped_left opens name None is maps added k = unmoved opens (ap maps_of is) maps added k

    -- what is decided on a closed database too
    quiet : (v : WholeValue) (reply : Reply) → longer ≡ history ++ entries_of n (WholeMade v reply ∷ []) → makes_whole_as l.last v reply l.last → whole_through l.last v (l.last ∷ []) l.last → B.is_open ≡ A.is_open → maps_of B ≡ maps_of A
        → Are (left_by_whole v (l.last ∷ []) l.left) → Leaves longer
    quiet v reply e made goes opens same k = adds longer n (WholeMade v reply) l.last (l.last ∷ []) e made goes (still opens same) k

    pub decided_whole : (w : Whole) (reply : Reply) (maps : List Maps) (k : ℕ) → (does_of w).decides (configuration_of store number meant a) reply B maps → longer ≡ history ++ entries_of n (noted_whole w (outcome.Decided reply) k)
        → Are (crash_maps_after (step.Whole w) (outcome.Decided reply) maps (maps_of B) l.left) → Leaves longer
    decided_whole Flush reply maps k t e r = entry value.Flush reply (maps_of B ∷ []) e (tested A (ToCall Flush) t.0) (makes (configuration_of store number meant a) Flush reply B maps t) refl r
    decided_whole (PopMin tree) reply maps k t e r = entry (value.PopMin tree) reply (maps_of B ∷ []) e (tested A (ToCall (PopMin tree)) t.free) (makes (configuration_of store number meant a) (PopMin tree) reply B maps t) refl (alone maps t.added r)
    decided_whole (PopMax tree) reply maps k t e r = entry (value.PopMax tree) reply (maps_of B ∷ []) e (tested A (ToCall (PopMax tree)) t.free) (makes (configuration_of store number meant a) (PopMax tree) reply B maps t) refl (alone maps t.added r)
    decided_whole (Clear tree) reply maps k t e r = entry (value.Clear tree) reply maps e (tested A (ToCall (Clear tree)) t.1.free) (makes (configuration_of store number meant a) (Clear tree) reply B maps t) (takes t.1.removes) r
    decided_whole (Group batches) reply maps k t e r = entry (value.Group batches.items) reply (maps_of B ∷ []) e (tested_open A (trees_of_batches batches.items) t.free) (makes (configuration_of store number meant a) (Group batches) reply B maps t) refl (alone maps t.added r)
    decided_whole (OpenTree name) reply maps k t e r =
        let opens = tested A (ToCall (OpenTree name)) t.free in
        entry (value.OpenTree name) reply (maps_of B ∷ []) e opens (makes (configuration_of store number meant a) (OpenTree name) reply B maps t) refl (opened_left opens name (A.trees name) t.is maps t.added r)
    decided_whole (DropTree name) reply maps k t e r =
        let opens = tested A (ToCall (DropTree name)) t.free in
        entry (value.DropTree name) reply (maps_of B ∷ []) e opens (makes (configuration_of store number meant a) (DropTree name) reply B maps t) refl (dropped_left opens name (A.trees name) t.is maps t.added r)
    decided_whole GenerateId reply maps k t e r =
        let opens = tested A (ToCall GenerateId) t.free in
        entry value.GenerateId reply (maps_of B ∷ []) e opens (makes (configuration_of store number meant a) GenerateId reply B maps t) refl (unmoved opens (ap maps_of t.is) maps t.added r)
    decided_whole (Import collections) reply maps k t e r =
        let opens = tested_open A [] t.1.free in
        let g = goes t.1.does in
        entry (value.Import (contents_of collections.items)) reply g.0 e opens (makes (configuration_of store number meant a) (Import collections) reply B maps t) g.1
        (matched (store b.db.pages) (l.left ++ maps) (l.left ++ g.0) r (g.2 l.left (subst (λ x. Ends l.left x) (led opens) ends)))
    decided_whole (Watch tree prefix) reply maps k t e r =
        let opens = tested A (ToCall (Watch tree prefix)) t.2.free in
        entry (value.Watch tree prefix) reply (maps_of B ∷ []) e opens (makes (configuration_of store number meant a) (Watch tree prefix) reply B maps t) refl (unmoved opens (ap maps_of t.2.is) maps t.3 r)
    decided_whole (Next subscriber) reply maps k t e r =
        quiet (value.Next subscriber) Done e (refl, refl) refl (ap (λ (s : State). s.is_open) t.2.is) (ap maps_of t.2.is) (once_more l.last refl (none_added maps t.3 r))
    decided_whole (Unsubscribe subscriber) reply maps k t e r =
        quiet (value.Unsubscribe subscriber) reply e (t.0, refl) refl (ap (λ (s : State). s.is_open) t.1) (ap maps_of t.1) (once_more l.last refl (none_added maps t.2 r))

    -- what changes nothing and is not noted
    unnoted : (v : WholeValue) (k : ℕ) → k ≡ 0 → longer ≡ history ++ entries_of n (noted_with v None k) → B ≡ A → (maps : List Maps) → maps ≡ [] → Are (l.left ++ maps) → Leaves longer
    unnoted v k none e same maps added r = rests longer (e ∙ ap (λ i. history ++ entries_of n (noted_with v None i)) none) (still (ap (λ (s : State). s.is_open) same) (ap maps_of same)) (none_added maps added r)

    pub group_stops : (Q : Type 0) → (B ≡ A) ⊎ (Q × Closes A B) → IsOpen store b → l.last ≡ maps_now store b
    group_stops Q (inl e) o = still (ap (λ (s : State). s.is_open) e) (ap maps_of e) o
    group_stops Q (inr c) o = absurd (shut (sym (ap (λ (s : State). s.is_open) c.1.is) ∙ o))
      where
        shut : false ≡ true → ⊥
        shut e = cc

    clear_stops : (tree : Tree) (x : Error) (maps : List Maps) (k : ℕ) → StopsClearing A (store a.db.pages) (store b.db.pages) tree x B maps → ClearsParts store meant a.db tree k b.db
        → longer ≡ history ++ entries_of n (noted_with (value.Clear tree) None k) → Are (l.left ++ maps) → Leaves longer
    clear_stops tree x maps zero t c e r =
        let same : maps_of B ≡ maps_of A = between ∙ ap maps_of (removes_none (c.removes (slots_of a.flights) a.slots_given) (told_none c.parts c.told)).0 in
        rests longer e (still (removes_open t.removes) same) (none_added maps (removes_none t.removes (takes_none (removes t.removes) same)).1 r)
    clear_stops tree x maps (suc k) t c e r = elim t.tested [
      | inl none ↦ told_some k c.parts c.told (takes_none (removes (c.removes (slots_of a.flights) a.slots_given)) (sym between ∙ ap maps_of (removes_none t.removes none).0))
      | inr free ↦
          let opens = tested A (ToCall (Clear tree)) free in
          adds longer n (PartsMade (value.Clear tree) (suc k)) (maps_of B) maps e
          (record {
            parts = c.parts;
            told = c.told;
            some = λ z. suc_zero z;
            takes = subst (λ m. TakesLeast tree.name l.last c.parts m) (sym between) (subst (λ m. TakesLeast tree.name m c.parts (maps_of C)) (sym (led opens)) (removes (c.removes (slots_of a.flights) a.slots_given)));
          })
          (subst (λ m. TakesThrough tree.name m maps (maps_of B)) (sym (led opens)) (takes t.removes)) (λ o. maps_same store meant b number) r
    ]

    module _ (all : List Content) (x : Error) where
      same_between : b.db ≡ a.db → C ≡ A
      same_between e = ap (λ (d : DbValue P M). state_of store meant d (slots_of a.flights) a.slots_given) e

      opens_between : C.is_open ≡ A.is_open → B.is_open ≡ A.is_open
      opens_between e = e

      import_stops : (maps : List Maps) (k : ℕ) (s : ImportStops store meant a.db all x b.db maps) → k ≡ told_parts (length s.stop.done) → longer ≡ history ++ entries_of n (noted_with (value.Import all) None k) → Are (l.left ++ maps) → Leaves longer
      import_stops maps k s told e r = go k told e
        where
          mid : State
          mid = state_of store meant s.mid (slots_of a.flights) a.slots_given

          stays : C ≡ mid
          stays = s.stays (slots_of a.flights) a.slots_given

          does : DoesParts A s.stop.done mid maps
          does = (s.state (slots_of a.flights) a.slots_given).does

          opens : A.is_open ≡ true
          opens = tested_open A [] (s.state (slots_of a.flights) a.slots_given).free

          reached : maps_of mid ≡ maps_of B
          reached = sym (between ∙ ap maps_of stays)

          g : GoesThrough (maps_of A) s.stop.done maps (maps_of mid)
          g = goes does

          go : (k : ℕ) → k ≡ told_parts (length s.stop.done) → longer ≡ history ++ entries_of n (noted_with (value.Import all) None k) → Leaves longer
          go zero told e =
              let none = parts_none does (told_none (length s.stop.done) told) in
              rests longer e (still (opens_between (ap (λ (s : State). s.is_open) (stays ∙ none.0))) (between ∙ ap maps_of (stays ∙ none.0))) (none_added maps none.1 r)
          go (suc k) told e = adds longer n (PartsMade (value.Import all) (suc k)) (maps_of B) g.0 e
              (record {
                done = s.stop.done;
                next = s.stop.next;
                later = s.stop.later;
                trees = (s.state (slots_of a.flights) a.slots_given).trees;
                all_parts = (s.state (slots_of a.flights) a.slots_given).all_parts;
                told = told;
                some = λ z. suc_zero z;
                makes = subst (λ m. MakesParts m s.stop.done (maps_of B)) (sym (led opens)) (subst (λ m. MakesParts (maps_of A) s.stop.done m) reached (parts does));
              })
              (record {
                done = s.stop.done;
                later = s.stop.next ∷ s.stop.later;
                all_parts = (s.state (slots_of a.flights) a.slots_given).all_parts;
                told = told;
                makes = subst (λ m. MakesThrough m s.stop.done g.0 (maps_of B)) (sym (led opens)) (subst (λ m. MakesThrough (maps_of A) s.stop.done g.0 m) reached g.1);
              })
              (λ o. maps_same store meant b number)
              (matched (store b.db.pages) (l.left ++ maps) (l.left ++ g.0) r (g.2 l.left (subst (λ x. Ends l.left x) (led opens) ends)))

      pub import_refused : (k : ℕ) (maps : List Maps) (r : (may_refuse_as (must_refuse_of (db_state store meant a.db) []) (cause_of_import all) x × (b.db ≡ a.db) × (maps ≡ [])) ⊎ ImportStops store meant a.db all x b.db maps)
          → k ≡ told_parts (parts_before store meant r) → longer ≡ history ++ entries_of n (noted_with (value.Import all) None k) → Are (l.left ++ maps) → Leaves longer
      import_refused k maps (inl none) told e r = rests longer (e ∙ ap (λ i. history ++ entries_of n (noted_with (value.Import all) None i)) told)
          (still (opens_between (ap (λ (s : State). s.is_open) (same_between none.1))) (between ∙ ap maps_of (same_between none.1))) (none_added maps none.2 r)
      import_refused k maps (inr s) told e r = import_stops maps k s told e r

    pub refused_whole : (w : Whole) (x : Error) (maps : List Maps) (k : ℕ) → (does_of w).refuses A (store a.db.pages) (store b.db.pages) x B maps → counts_as store meant a.db w (outcome.Refused x) k b.db
        → longer ≡ history ++ entries_of n (noted_whole w (outcome.Refused x) k) → Are (l.left ++ maps) → Leaves longer
    refused_whole (Clear tree) x maps k t c e r = clear_stops tree x maps k t c e r
    refused_whole (Group batches) x maps k t c e r = rests longer (e ∙ ap (λ i. history ++ entries_of n (noted_with (value.Group batches.items) None i)) c) (group_stops _ t.is) (none_added maps t.added r)
    refused_whole (Import collections) x maps k t c e r = import_refused (contents_of collections.items) x k c.is.maps c.is.refuses c.told e (extended c.is.maps (store a.db.pages) (store b.db.pages) c.is.leaves.extends l.left l.leaves)
    refused_whole (Next subscriber) x maps k t c e r = absurd t
    refused_whole (Unsubscribe subscriber) x maps k t c e r = absurd t
    refused_whole other x maps k t c e r = unnoted (whole_value other) k c e t.1 maps t.2 r

    -- a call that is refused makes nothing durable
    undecided : (w : Whole) (x : Error) (maps : List Maps) → Are (crash_maps_after (step.Whole w) (outcome.Refused x) maps (maps_of B) l.left) → Are (l.left ++ maps)
    undecided Flush x maps r = r
    undecided other x maps r = r

    came : (w : Whole) (r : Outcome) (maps : List Maps) (k : ℕ) → transition_as (configuration_of store number meant a) (step.Whole w) r (configuration_of store number meant b) maps → counts_as store meant a.db w r k b.db
        → longer ≡ history ++ entries_of n (noted_whole w r k) → Are (crash_maps_after (step.Whole w) r maps (maps_of B) l.left) → Leaves longer
    came w (outcome.Decided reply) maps k t c e r = decided_whole w reply maps k t e r
    came w (outcome.Refused x) maps k t c e r = refused_whole w x maps k t c e (undecided w x maps r)
    came w other maps k t c e r = absurd t

    comes : (w : Whole) (r : Outcome) (more : List MadeValue) → ComesToWhole store number meant a w r b more → longer ≡ history ++ entries_of n more → Leaves longer
    comes w r more (inl d) e = came w r d.step.step.maps d.number d.step.step.step.is d.counts.is (e ∙ ap (λ m. history ++ entries_of n m) d.notes) (d.step.step.keeps l.left l.leaves)
    comes w r more (inr c) e = rests longer (e ∙ ap (λ m. history ++ entries_of n m) c.none) (λ o. l.now (subst (λ m. IsOpen store m) c.same o) ∙ sym (ap (λ (m : MachineValue P M). maps_now store m) c.same))
        (subst (λ (m : MachineValue P M). AreCrashMaps (store m.db.pages) l.left) (sym c.same) l.leaves)

  pub whole_leaves : (n : ℕ) (longer : List EntryValue) (made more : List MadeValue) (w : Whole) (r : Outcome) → NotesWhole store number meant a history n made w r b longer more → Leaves longer
  whole_leaves n longer made more w r t = comes longer n w r t.noted t.comes t.adds

-- ---- states

pub legal_of : {P M : Type 0} {store : P → Store} {m : MachineValue P M} {opening : List Content} {history : List EntryValue} → CrashLeaves store m opening history → IsOpen store m → IsLegal (maps_from opening) history (maps_now store m)
legal_of {opening = opening} {history = history} c o = subst (λ m. IsLegal (maps_from opening) history m) (c.now o) (leads_legal c.leads)

pub leads_of : {P M : Type 0} {store : P → Store} {m : MachineValue P M} {opening : List Content} {history : List EntryValue} → CrashLeaves store m opening history → Leads opening history
leads_of c = record { last = c.last; legal = leads_legal c.leads }

-- it holds of the state after, whose moments go on from those before
abbrev pub GoesTo : {P M : Type 0} {store : P → Store} {a : MachineValue P M} {opening : OpeningValue} {history : List EntryValue} {before : ℕ} → IsState store a opening history before → MachineValue P M → List EntryValue → ℕ → Type 0
GoesTo {store = store} {opening = opening} h b longer after = (n : IsState store b opening longer after) × GoesOn h.crashes.moments n.crashes.moments

-- what holds of a state after a begin, and after a call was given up
module _ {P M : Type 0} (store : P → Store) (number : P → ℕ) (meant : M → Merge) (a b : MachineValue P M) where
  pub begin_state : (opening : OpeningValue) (history : List EntryValue) (total : ℕ) (tree : Tree) (call : Call) (r : Result ℕ Error)
      → IfOk r (λ slot. MachineStepContract store number meant a (step.Begin tree call) (outcome.Begun slot) b) → IfErr r (λ e. MachineStepContract store number meant a (step.Begin tree call) (outcome.Refused e) b)
      → (h : IsState store a opening history total) → GoesTo h b history total
  begin_state opening history total tree call (Ok slot) ok err h =
      let c = begun_leaves store number meant a b opening.contents history h.crashes tree call slot ok.step in
      (record { legal = legal_of c.0; leads = leads_of c.0; crashes = c.0; covers = λ f. c.1 ∙ h.covers f; ids = begun_risen store number meant a b tree call (outcome.Begun slot) ok.step.maps history ok.step.step.is h.ids; counted = h.counted }, c.2)
  begin_state opening history total tree call (Err x) ok err h =
      let c = unbegun_leaves store number meant a b opening.contents history h.crashes tree call x err.step in
      (record { legal = legal_of c.0; leads = leads_of c.0; crashes = c.0; covers = λ f. c.1 ∙ h.covers f; ids = begun_risen store number meant a b tree call (outcome.Refused x) err.step.maps history err.step.step.is h.ids; counted = h.counted }, c.2)

  pub abandon_state : (opening : OpeningValue) (history : List EntryValue) (total slot : ℕ) (o : Outcome)
      → MachineStepContract store number meant a (step.Abandon slot) o b → (h : IsState store a opening history total) → GoesTo h b history total
  abandon_state opening history total slot o c h =
      let l = abandon_leaves store number meant a b opening.contents history h.crashes slot o c.step in
      (record { legal = legal_of l.0; leads = leads_of l.0; crashes = l.0; covers = λ f. l.1 ∙ h.covers f; ids = abandoned_risen store number meant a b slot o c.step.maps history c.step.step.is h.ids; counted = h.counted }, l.2)

-- ---- the beginning

-- a list that ends with its only element has none before it
none_before : {A : Type 0} (before : List A) (x : A) → before ++ x ∷ [] ≡ x ∷ [] → before ≡ []
none_before [] x e = refl
none_before (a ∷ before) x e =
    let long = ap length e in
    let sum = length-append before (x ∷ []) in
    absurd (omega (arith, long, sum))

-- what a crash might leave of a store that is outside every group: the last is what it has now, and there are no others if it was flushed
first_leaves : {P M : Type 0} (store : P → Store) (m : MachineValue P M) (opening : List Content) (history : List EntryValue) → (now (store m.db.pages)).in_group ≡ false → maps_from opening ≡ maps_now store m → maps_from opening ≡ trees_of (now (store m.db.pages))
    → history ≡ [] → (c : CrashLeaves store m opening history) × (crash_states (store m.db.pages) ≡ now (store m.db.pages) ∷ [] → c.earlier ≡ [])
first_leaves store m opening history opens same pages none =
    let before = now_left (store m.db.pages) opens in (
      record {
        earlier = map trees_of before.0;
        last = maps_from opening;
        left = map trees_of before.0 ++ maps_from opening ∷ [];
        leads = subst (λ es. LeadsThrough (maps_from opening) (map trees_of before.0 ++ maps_from opening ∷ []) es (maps_from opening) (map trees_of before.0 ++ maps_from opening ∷ [])) (sym none) LeadsNoMore;
        moments = maps_from opening ∷ [];
        are = subst (λ es. AreMoments (maps_from opening) es (maps_from opening) (maps_from opening ∷ [])) (sym none) LastMoment;
        now = λ o. same;
        leaves = record {
          is = subst (λ x. StutterEquivalent x (map trees_of before.0 ++ maps_from opening ∷ []))
              (sym (ap (map trees_of) before.1 ∙ map-append trees_of before.0 (now (store m.db.pages) ∷ []) ∙ ap (λ x. map trees_of before.0 ++ x ∷ []) (sym pages)))
              (matches_same (map trees_of before.0 ++ maps_from opening ∷ []));
        };
      },
      λ alone. ap (map trees_of) (none_before before.0 (now (store m.db.pages)) (sym before.1 ∙ alone)),
    )

-- what holds of a state before anything was made
pub first_is : {P M : Type 0} (store : P → Store) (d : DbValue P M) (m : MachineValue P M) (opening : OpeningValue) (history : List EntryValue) (total : ℕ) → IsDb store d → (now (store d.pages)).in_group ≡ false
    → opening.contents ≡ collections (trees_of (now (store d.pages))) d.trees → (opening.flushed ≡ true → crash_states (store d.pages) ≡ now (store d.pages) ∷ []) → m.db ≡ d → history ≡ [] → total ≡ 0 → IsState store m opening history total
first_is {P = P} {M = M} store d m opening history total sound opens is flushed same none uncounted =
    let begins = opened store d sound opening.contents is m same in
    let pages = begins ∙ ap (λ (x : DbValue P M). maps_now store (record m { db = x })) same ∙ maps_are store (λ (o : M) k value bytes. None) d sound.forest sound.is ∙ ap (λ (x : DbValue P M). trees_of (now (store x.pages))) (sym same) in
    let crashes = first_leaves store m opening.contents history (ap (λ (x : DbValue P M). (now (store x.pages)).in_group) same ∙ opens) begins pages none in
    record { legal = legal_of crashes.0; leads = leads_of crashes.0; crashes = crashes.0; covers = λ f. crashes.1 (subst (λ (x : DbValue P M). crash_states (store x.pages) ≡ now (store x.pages) ∷ []) (sym same) (flushed f)); ids = none_risen m.db.greatest_id history none; counted = ap length none ∙ sym uncounted }
