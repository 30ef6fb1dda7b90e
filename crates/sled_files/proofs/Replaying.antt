-- What is replayed, change by change.
use Rattle.std.proofs.Common.{◌≡◌, ℕ, Bor, map, drop, get_or, length, arith, ◌+◌, ◌-◌, ◌<◌, ◌≤◌, List, [], ◌∷◌, ◌++◌, refl, sym, ◌∙◌, ap, subst, append_assoc}
use Rattle.std.specs.Prelude.{Bool, Result, Ok, Err}
use Rattle.std.specs.List.{All}
use Rattle.std.proofs.lemmas.List.Elements.{All-nil, All-cons, All-head, All-tail, All-append}
use Rattle.std.proofs.lemmas.List.{append-nil, drop_more, length-map, length-append, length-drop, get_or-map}
use Rattle.sled_bytes.specs.declared.change.Change.{Change}
use Rattle.sled_bytes.specs.declared.refusal.Flaw.{Flaw}
use Rattle.sled_bytes.specs.declared.refusal.Refusal.TheVariants as refusals
use Rattle.sled_pages.specs.Rebuild.{Rebuilt}
use Rattle.sled_files.specs.declared.replay.Replay.{Replay}
use Rattle.sled_files.specs.declared.replay.Halt.{Halt}
use Rattle.sled_files.specs.declared.replay.Halt.TheVariants.{NoMemory, Flawed}
use Rattle.sled_bytes.specs.Reading.{change_at, changes_from, changes_of}
use Rattle.sled_bytes.proofs.Several.{behind_front, changes_begin, changes_go_on, changes_end, changes_done}
use Rattle.sled_files.specs.Change.{Durable, nothing_yet, changed, changed_all}
use Rattle.sled_files.specs.Standing.{joined, all_changes}
use Rattle.sled_files.specs.theory.Replay.{Numbers, replayed_of, numbers_of, numbers_after, numbers_after_all, HasPlace, is_why_halted, is_why_unread, Replays, ReplaysRead, IsReplay, halts}

-- what was replayed, by what is put into the store in the making
abbrev pub durable_with : Bool → ℕ → ℕ → ℕ → Rebuilt → Durable
durable_with in_group mark pids versions r = record { state = record { pages = r.pages; roots = r.roots; in_group = in_group }; mark = mark; pids = pids; versions = versions }

-- what is read of payloads, of which one is read after the other

abbrev read_ok : List Change → Result (List Change) Flaw
read_ok changes = Ok changes

joined_twice : (front back : List Change) (z : Result (List Change) Flaw) → joined (Ok front) (joined (Ok back) z) ≡ joined (Ok (front ++ back)) z
joined_twice front back (Ok rest) = ap (λ (l : List Change). Ok l) (sym (append_assoc front back rest))
joined_twice front back (Err flaw) = refl

-- where both can be read, both are
pub record AreBoth (x y : Result (List Change) Flaw) (all : List Change) : Type 0 where
  pub front : List Change
  pub back : List Change
  pub front_is : x ≡ Ok front
  pub back_is : y ≡ Ok back
  pub all_are : front ++ back ≡ all

pub both_read : (x y : Result (List Change) Flaw) (all : List Change) → joined x y ≡ Ok all → AreBoth x y all
both_read (Ok front) (Ok back) all is = record { front = front; back = back; front_is = refl; back_is = refl; all_are = cc }
both_read (Ok front) (Err flaw) all is = absurd (cc)
both_read (Err flaw) y all is = absurd (cc)

front_all : (P : Change → Type 0) (front back : List Change) → All P (front ++ back) → All P front
front_all P [] back h = All-nil P
front_all P (c ∷ front) back h = All-cons P c front (All-head P c (front ++ back) h) (front_all P front back (All-tail P c (front ++ back) h))

back_all : (P : Change → Type 0) (front back : List Change) → All P (front ++ back) → All P back
back_all P [] back h = h
back_all P (c ∷ front) back h = back_all P front back (All-tail P c (front ++ back) h)

-- what halts the reading of the first halts that of all
pub halts_both : (e : Halt) (x y : Result (List Change) Flaw) → halts e x → halts e (joined x y)
halts_both NoMemory x y why = tt
halts_both Flawed x y why = λ changes is h. let b = both_read x y changes is in why b.front b.front_is (front_all HasPlace b.front b.back (subst (λ (l : List Change). All HasPlace l) (sym b.all_are) h))

-- and of what comes behind
pub halts_behind : (e : Halt) (x y : Result (List Change) Flaw) → halts e y → halts e (joined x y)
halts_behind NoMemory x y why = tt
halts_behind Flawed x y why = λ changes is h. let b = both_read x y changes is in why b.back b.back_is (back_all HasPlace b.front b.back (subst (λ (l : List Change). All HasPlace l) (sym b.all_are) h))

changed_both : (front more : List Change) (d : Durable) → changed_all more (changed_all front d) ≡ changed_all (front ++ more) d
changed_both [] more d = refl
changed_both (c ∷ front) more d = changed_both front more (changed c d)

numbers_both : (front more : List Change) (n : Numbers) → numbers_after_all more (numbers_after_all front n) ≡ numbers_after_all (front ++ more) n
numbers_both [] more n = refl
numbers_both (c ∷ front) more n = numbers_both front more (numbers_after c n)

-- while the changes of a payload are read: those before this place were replayed, and those that are left are read behind them
pub record ReadsTo (bytes : List ℕ) (at : ℕ) (old new : Replay) : Type 0 where
  pub done : List Change
  pub few : length done ≤ at
  pub read : behind_front done (changes_from (drop at bytes) (length bytes - length done)) ≡ changes_of bytes
  pub replays : Replays done old new

pub reads_none : (bytes : List ℕ) (r : Replay) → ReadsTo bytes 0 r r
reads_none bytes r = record {
  done = [];
  few = omega arith;
  read = changes_begin [] bytes refl;
  replays = record { made = refl; numbers = refl; placed = All-nil HasPlace };
}

-- what halts the first changes halts all
front_halts : (e : Halt) (front : List Change) (r all : Result (List Change) Flaw) → behind_front front r ≡ all → halts e (Ok front) → halts e all
front_halts e front (Ok rest) all is why = subst (λ (x : Result (List Change) Flaw). halts e x) is (halts_both e (Ok front) (Ok rest) why)
front_halts e front (Err flaw) all is why = subst (λ (x : Result (List Change) Flaw). halts e x) is (halts_both e (Ok front) (Err flaw) why)

last_halts : (e : Halt) (front : List Change) (c : Change) → is_why_halted e c → halts e (Ok (front ++ c ∷ []))
last_halts NoMemory front c why = tt
last_halts Flawed front c why = λ changes is h. why (All-head HasPlace c [] (back_all HasPlace front (c ∷ []) (subst (λ (l : List Change). All HasPlace l) (sym (ok_is (front ++ c ∷ []) changes is)) h)))
  where
    ok_is : (a b : List Change) → read_ok a ≡ read_ok b → a ≡ b
    ok_is a b same = cc

module _ {bytes : List ℕ} {at : ℕ} {old new : Replay} (m : ReadsTo bytes at old new) where
  -- what is read with the next change
  next_read : (c : Change) (behind : ℕ) → at < length bytes → change_at (drop at bytes) ≡ Ok (c, drop behind bytes) → behind_front (m.done ++ c ∷ []) (changes_from (drop behind bytes) (length bytes - length (m.done ++ c ∷ []))) ≡ changes_of bytes
  next_read c behind lt read = changes_go_on m.done (m.done ++ c ∷ []) (drop at bytes) (drop behind bytes) c (length bytes) (changes_of bytes) (omega (arith, lt, m.few)) read refl m.read

  pub reads_one : (c : Change) (behind : ℕ) (newer : Replay) → at < length bytes → at < behind → change_at (drop at bytes) ≡ Ok (c, drop behind bytes) → replayed_of newer ≡ changed c (replayed_of new) → numbers_of newer ≡ numbers_after c (numbers_of new) → HasPlace c → ReadsTo bytes behind old newer
  reads_one c behind newer lt less read made numbers place = record {
    done = m.done ++ c ∷ [];
    few = omega (arith, m.few, less, length-append m.done (c ∷ []));
    read = next_read c behind lt read;
    replays = record {
      made = made ∙ ap (changed c) m.replays.made ∙ changed_both m.done (c ∷ []) (replayed_of old);
      numbers = numbers ∙ ap (numbers_after c) m.replays.numbers ∙ numbers_both m.done (c ∷ []) (numbers_of old);
      placed = All-append HasPlace m.done (c ∷ []) m.replays.placed (All-cons HasPlace c [] place (All-nil HasPlace));
    };
  }

  pub reads_end : drop at bytes ≡ [] → ReplaysRead (changes_of bytes) old new
  reads_end none = record { changes = m.done; is = changes_done m.done (drop at bytes) _ (changes_of bytes) none m.read; replays = m.replays }

  pub unread_halts : (e : Halt) → at < length bytes → is_why_unread e (change_at (drop at bytes)) → halts e (changes_of bytes)
  unread_halts NoMemory lt why = tt
  unread_halts Flawed lt why = λ changes is. absurd (flawed changes (sym is ∙ changes_end m.done (refusals.Flawed why.0) (drop at bytes) (length bytes) (changes_of bytes) (omega (arith, lt, m.few)) (omega (arith, lt, length-drop at bytes)) why.1 m.read))
    where
      flawed : (changes : List Change) → read_ok changes ≡ Err why.0 → ⊥
      flawed changes is = cc

  pub unmade_halts : (e : Halt) (c : Change) (behind : ℕ) → at < length bytes → change_at (drop at bytes) ≡ Ok (c, drop behind bytes) → is_why_halted e c → halts e (changes_of bytes)
  unmade_halts e c behind lt read why = front_halts e (m.done ++ c ∷ []) _ (changes_of bytes) (next_read c behind lt read) (last_halts e m.done c why)

-- these changes were replayed of all payloads, and those that are left are still to come
pub record Reads (all left : List (List ℕ)) (r : Replay) : Type 0 where
  pub done : List Change
  pub comes : joined (Ok done) (all_changes left) ≡ all_changes all
  pub made : replayed_of r ≡ changed_all done nothing_yet
  pub numbers : numbers_of r ≡ numbers_after_all done (0, 0)
  pub placed : All HasPlace done

pub reads_first : (p : List ℕ) (ps : List (List ℕ)) (new next : Replay) → replayed_of new ≡ nothing_yet → numbers_of new ≡ (0, 0) → ReplaysRead (changes_of p) new next → Reads (p ∷ ps) ps next
reads_first p ps new next none zeros r = record {
  done = r.changes;
  comes = ap (λ (x : Result (List Change) Flaw). joined x (all_changes ps)) (sym r.is);
  made = r.replays.made ∙ ap (changed_all r.changes) none;
  numbers = r.replays.numbers ∙ ap (numbers_after_all r.changes) zeros;
  placed = r.replays.placed;
}

module _ {all left : List (List ℕ)} {old : Replay} (m : Reads all left old) where
  pub reads_more : (p : List ℕ) (rest : List (List ℕ)) (new : Replay) → left ≡ p ∷ rest → ReplaysRead (changes_of p) old new → Reads all rest new
  reads_more p rest new is r = record {
    done = m.done ++ r.changes;
    comes = sym (joined_twice m.done r.changes (all_changes rest))
        ∙ ap (λ (x : Result (List Change) Flaw). joined (Ok m.done) (joined x (all_changes rest))) (sym r.is)
        ∙ ap (λ (l : List (List ℕ)). joined (Ok m.done) (all_changes l)) (sym is)
        ∙ m.comes;
    made = r.replays.made ∙ ap (changed_all r.changes) m.made ∙ changed_both m.done r.changes nothing_yet;
    numbers = r.replays.numbers ∙ ap (numbers_after_all r.changes) m.numbers ∙ numbers_both m.done r.changes (0, 0);
    placed = All-append HasPlace m.done r.changes m.placed r.replays.placed;
  }

  pub reads_all : left ≡ [] → IsReplay (all_changes all) old
  reads_all is = record {
    changes = m.done;
    is = sym m.comes ∙ ap (λ (l : List (List ℕ)). joined (Ok m.done) (all_changes l)) is ∙ ap (λ (l : List Change). Ok l) (append-nil m.done);
    made = m.made;
    numbers = m.numbers;
    placed = m.placed;
  }

  pub reads_halted : (e : Halt) (p : List ℕ) (rest : List (List ℕ)) → left ≡ p ∷ rest → halts e (changes_of p) → halts e (all_changes all)
  reads_halted e p rest is why = subst (λ (x : Result (List Change) Flaw). halts e x) m.comes (halts_behind e (Ok m.done) (all_changes left) (subst (λ (l : List (List ℕ)). halts e (all_changes l)) (sym is) (halts_both e (changes_of p) (all_changes rest) why)))

-- the bytes of lent payloads from a place on
pub left_at : (ps : List (Bor (List ℕ))) (i : ℕ) (d : Bor (List ℕ)) → i < length ps → drop i (map (λ p. p.now) ps) ≡ (get_or ps i d).now ∷ drop (i + 1) (map (λ p. p.now) ps)
left_at ps i d lt =
    let of : Bor (List ℕ) → List ℕ = λ p. p.now in
    drop_more (map of ps) i d.now (omega (arith, lt, length-map ps of)) ∙ ap (λ (l : List ℕ). l ∷ drop (i + 1) (map of ps)) (get_or-map of ps i d d.now lt)
