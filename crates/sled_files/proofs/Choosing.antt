-- Which of two files counts.
use Rattle.std.proofs.Common.{◌≡◌, ◌⊎◌, inl, inr, ℕ, ◌+◌, ◌<◌, ◌≤◌, ◌^◌, List, [], ◌∷◌, ◌++◌, length, map, take, drop, refl, sym, ◌∙◌, ap, subst, arith}
use Rattle.std.specs.Prelude.{Bool, true, false, Option, Result, Some, None, Ok, Err, if◌then◌else◌, ◌&&◌, nat_eq}
use Rattle.std.specs.Int.{w64, from_le_bytes}
use Rattle.std.proofs.lemmas.Nat.{from_le_bytes-to_le_bytes_8}
use Rattle.sled_log.specs.Digest.{digest}
use Rattle.sled_log.specs.Log.{log_of, log_by, log_from, payload_in}
use Rattle.sled_bytes.specs.declared.change.Change.{Change}
use Rattle.sled_bytes.specs.declared.refusal.Flaw.{Flaw}
use Rattle.sled_files.specs.declared.replay.Made.{Made}
use Rattle.sled_files.specs.declared.found.Found.{Found}
use Rattle.sled_files.specs.declared.found.OpenError.{OpenError}
use Rattle.sled_files.specs.declared.found.OpenError.TheVariants.{NoMemory, NotAStore, OtherFormat, Decayed, Disk}
use Rattle.sled_files.specs.Change.{Durable, nothing_yet, changed_all, AreOfStore}
use Rattle.sled_files.specs.Header.{header}
use Rattle.sled_files.specs.Standing.{all_changes, HasChanges, StandsFor, IsBlank, OfGeneration, IsOlder, Counts, AreFor, AreBlank}
use Rattle.sled_files.specs.Flaws.{HasNoFlaw, IsNoStore}
use Rattle.sled_files.specs.Opening.{AreOfNone, is_why_unopened}
use Rattle.sled_files.specs.theory.Found.{IsFileOf, IsFoundAs, IsNoFile, is_why_no_file}
use Rattle.sled_files.specs.theory.Chosen.{IsMade, is_why_unmade, IsBehind, IsOpened}
use Rattle.sled_files.proofs.Adding.{of_generation}
use Rattle.sled_files.proofs.Finding.{ok_logs}

-- a header says its generation

header_same : (g h : ℕ) (p q : List ℕ) → g < 2 ^ 64 → h < 2 ^ 64 → header g ++ p ≡ header h ++ q → (g ≡ h) × (p ≡ q)
unfolding header
header_same g h p q fg fh is = (sym (from_le_bytes-to_le_bytes_8 g fg) ∙ ap (λ (l : List ℕ). from_le_bytes w64 (take 8 (drop 12 l))) is ∙ from_le_bytes-to_le_bytes_8 h fh, ap (λ (l : List ℕ). drop 20 l) is)

ok_changes : (r : Result (List Change) Flaw) (a b : List Change) → r ≡ Ok a → r ≡ Ok b → a ≡ b
ok_changes r a b one two = let h = sym one ∙ two in cc

both_parts : (p q : List ℕ) (ps qs : List (List ℕ)) → p ∷ ps ≡ q ∷ qs → (p ≡ q) × (ps ≡ qs)
both_parts p q ps qs h = (cc, cc)

-- what a file is, it is in one way
pub file_same : {bytes : List ℕ} {g h : ℕ} (a : OfGeneration bytes g) (b : OfGeneration bytes h) → (g ≡ h) × (a.first ≡ b.first) × (a.others ≡ b.others)
file_same {bytes} {g} {h} a b =
    let parts = both_parts _ _ _ _ (ok_logs (log_of digest bytes) _ _ a.log b.log) in
    let same = header_same g h a.first b.first a.fits b.fits parts.0 in
    (same.0, same.1, parts.1)

-- a blank file is no log of a store

closed_or_not : (x y : Bool) (payload : List ℕ) (at : ℕ) (following : List ℕ → Result (List (List ℕ)) ℕ) (q : List ℕ) (qs : List (List ℕ))
    → log_by (if x then Ok None else if y && false then Ok (Some payload) else Err tt) at following ≡ Ok (q ∷ qs) → ⊥
closed_or_not true y payload at following q qs h = let e : [] ≡ q ∷ qs = cc in cc
closed_or_not false true payload at following q qs h = cc
closed_or_not false false payload at following q qs h = cc

short_log : (bytes : List ℕ) (q : List ℕ) (qs : List (List ℕ)) → length bytes ≤ 1 → log_of digest bytes ≡ Ok (q ∷ qs) → ⊥
short_log [] q qs le h = cc
short_log (b ∷ []) q qs le h = closed_or_not (nat_eq b 0) (nat_eq b 255) (payload_in []) 0 (λ payload. log_from digest 0 (0 + (17 + length payload)) (drop (17 + length payload) (b ∷ []))) q qs h
short_log (b ∷ c ∷ bytes) q qs le h = absurd (omega (arith, le))

pub no_blank_log : (bytes : List ℕ) (q : List ℕ) (qs : List (List ℕ)) → IsBlank bytes → log_of digest bytes ≡ Ok (q ∷ qs) → ⊥
no_blank_log bytes q qs (inl le) h = short_log bytes q qs le h
no_blank_log bytes q qs (inr none) h = let e = ok_logs (log_of digest bytes) _ _ none h in cc

pub no_blank_file : {bytes : List ℕ} {g : ℕ} → OfGeneration bytes g → IsBlank bytes → ⊥
no_blank_file {bytes} o blank = no_blank_log bytes _ _ blank o.log

-- a file of which another is behind is not behind that one
pub not_behind : {one other : List ℕ} {g h : ℕ} → OfGeneration one g → OfGeneration other h → IsBehind g other → IsBehind h one → ⊥
not_behind one_is other_is (inl blank) that = no_blank_file other_is blank
not_behind one_is other_is (inr older) (inl blank) = no_blank_file one_is blank
not_behind one_is other_is (inr older) (inr lower) =
    let a = file_same other_is older.is in
    let b = file_same one_is lower.is in
    omega (arith, a.0, b.0, older.below, lower.below)

not_other : {one other : List ℕ} {g : ℕ} → OfGeneration one g → IsBehind g other → (h : ℕ) (d : Durable) → Counts other one h d → ⊥
not_other one_is behind h d c = not_behind one_is (of_generation c.stands.has) behind c.behind

abbrev pub of_file : {bytes : List ℕ} {g gate : ℕ} {f : List ℕ} {os : List (List ℕ)} → IsFileOf bytes g gate f os → OfGeneration bytes g
of_file {bytes} {g} {gate} {f} {os} file = record { fits = file.fits; first = f; others = os; log = file.log }

-- what two files stand for is what is read of the one
pub record IsReadOf (read : Result (List Change) Flaw) (d : Durable) : Type 0 where
  pub changes : List Change
  pub is : read ≡ Ok changes
  pub makes : changed_all changes nothing_yet ≡ d
  pub made : AreOfStore changes d

abbrev pub UnmadeOf : Result (List Change) Flaw → Type 0
UnmadeOf read = (changes : List Change) → read ≡ Ok changes → AreOfStore changes (changed_all changes nothing_yet) → ⊥

module _ {read : Result (List Change) Flaw} where
  alone_of : {store : Made} (m : IsMade read store) (d : Durable) → IsReadOf read d → d ≡ changed_all m.changes nothing_yet
  alone_of m d r = sym r.makes ∙ ap (λ (l : List Change). changed_all l nothing_yet) (ok_changes read _ _ r.is m.is)

  unmade_from : UnmadeOf read → (d : Durable) → IsReadOf read d → ⊥
  unmade_from why d r = why r.changes r.is (subst (λ (x : Durable). AreOfStore r.changes x) (sym r.makes) r.made)

abbrev stands_for : {one : List ℕ} {g gate : ℕ} {f : List ℕ} {os : List (List ℕ)} {store : Made} → IsFileOf one g gate f os → (m : IsMade (all_changes (f ∷ os)) store) → StandsFor one g (changed_all m.changes nothing_yet)
stands_for {one} {g} {gate} {f} {os} file m = record { changes = m.changes; has = record { fits = file.fits; first = f; others = os; log = file.log; decoded = m.is }; makes = refl; made = m.made }

module _ {one other : List ℕ} {g gate : ℕ} {f : List ℕ} {os : List (List ℕ)} (file : IsFileOf one g gate f os) (behind : IsBehind g other) where
  same_has : {h : ℕ} {changes : List Change} (s : HasChanges one h changes) → all_changes (f ∷ os) ≡ Ok changes
  same_has {h} {changes} s =
      let t = file_same (of_file file) (of_generation s) in
      ap (λ (l : List ℕ). all_changes (l ∷ os)) t.1 ∙ ap (λ (l : List (List ℕ)). all_changes (s.first ∷ l)) t.2 ∙ s.decoded

  read_of : (h : ℕ) (d : Durable) → Counts one other h d ⊎ Counts other one h d → IsReadOf (all_changes (f ∷ os)) d
  read_of h d (inl c) = record { changes = c.stands.changes; is = same_has c.stands.has; makes = c.stands.makes; made = c.stands.made }
  read_of h d (inr c) = absurd (not_other (of_file file) behind h d c)

  no_store : UnmadeOf (all_changes (f ∷ os)) → IsNoStore gate one other
  no_store why = record { generation = g; is = of_file file; behind = behind; log = file.is; unmade = why }

pub swapped : {first second : List ℕ} {k : ℕ} {d : Durable} → Counts first second k d ⊎ Counts second first k d → Counts second first k d ⊎ Counts first second k d
swapped (inl c) = inr c
swapped (inr c) = inl c

-- whichever of the two it is

abbrev one_is : Bool → List ℕ → List ℕ → List ℕ
one_is is_second first second = if is_second then second else first

abbrev other_is : Bool → List ℕ → List ℕ → List ℕ
other_is is_second first second = if is_second then first else second

pub opened_as : (is_second : Bool) (first second : List ℕ) {g gate : ℕ} {f : List ℕ} {os : List (List ℕ)} {store : Made} (snapshot : ℕ) → length f ≡ snapshot → IsFileOf (one_is is_second first second) g gate f os → IsBehind g (other_is is_second first second)
    → IsMade (all_changes (f ∷ os)) store → IsOpened first second is_second gate snapshot g store
opened_as true first second {g} snapshot long file behind m = record {
  durable = changed_all m.changes nothing_yet;
  stands = record { stands = stands_for file m; log = file.is };
  begins = long;
  behind = behind;
  stand = record { generation = g; which = inr (record { stands = stands_for file m; behind = behind }) };
  reopened = m.reopened;
  pids = m.pids;
  versions = m.versions;
  named = m.named;
  alone = λ d a. alone_of m d (read_of file behind a.generation d (swapped a.which));
}
opened_as false first second {g} snapshot long file behind m = record {
  durable = changed_all m.changes nothing_yet;
  stands = record { stands = stands_for file m; log = file.is };
  begins = long;
  behind = behind;
  stand = record { generation = g; which = inl (record { stands = stands_for file m; behind = behind }) };
  reopened = m.reopened;
  pids = m.pids;
  versions = m.versions;
  named = m.named;
  alone = λ d a. alone_of m d (read_of file behind a.generation d a.which);
}

none_as : (is_second : Bool) (first second : List ℕ) {g gate : ℕ} {f : List ℕ} {os : List (List ℕ)} → IsFileOf (one_is is_second first second) g gate f os → IsBehind g (other_is is_second first second) → UnmadeOf (all_changes (f ∷ os)) → AreOfNone first second
none_as true first second file behind why = record { no_blanks = λ b. no_blank_file (of_file file) b.second_is; no_store = λ d a. unmade_from why d (read_of file behind a.generation d (swapped a.which)) }
none_as false first second file behind why = record { no_blanks = λ b. no_blank_file (of_file file) b.first_is; no_store = λ d a. unmade_from why d (read_of file behind a.generation d a.which) }

unmade_at : (is_second : Bool) (first second : List ℕ) {gate : ℕ} → IsNoStore gate (one_is is_second first second) (other_is is_second first second) → IsNoStore gate first second ⊎ IsNoStore gate second first
unmade_at true first second none = inr none
unmade_at false first second none = inl none

pub unmade_as : (is_second : Bool) (first second : List ℕ) {g gate : ℕ} {f : List ℕ} {os : List (List ℕ)} (e : OpenError) → IsFileOf (one_is is_second first second) g gate f os → IsBehind g (other_is is_second first second)
    → is_why_unmade e gate (all_changes (f ∷ os)) → is_why_unopened e first second
unmade_as is_second first second NoMemory file behind why = tt
unmade_as is_second first second NotAStore file behind why = absurd why
unmade_as is_second first second (OtherFormat other) file behind why = absurd why
unmade_as is_second first second {g} {gate} (Decayed at) file behind why =
    (none_as is_second first second file behind why.1, inr (inr (inr (subst (λ (place : ℕ). IsNoStore place first second ⊎ IsNoStore place second first) (sym why.0) (unmade_at is_second first second (no_store file behind why.1))))))
unmade_as is_second first second (Disk e) file behind why = absurd why

pub older_behind : {g h gate : ℕ} {other f : List ℕ} {os : List (List ℕ)} → IsFileOf other h gate f os → h < g → IsBehind g other
older_behind {g} {h} file below = inr (record { earlier = h; below = below; is = of_file file })

-- two files of one generation

pub even_counts : {one other : List ℕ} {g : ℕ} → OfGeneration one g → OfGeneration other g → (k : ℕ) (d : Durable) → Counts one other k d → ⊥
even_counts {one} {other} {g} one_is other_is k d c = go c.behind
  where
    go : IsBlank other ⊎ IsOlder k other → ⊥
    go (inl blank) = no_blank_file other_is blank
    go (inr o) = let a = file_same one_is (of_generation c.stands.has) in let b = file_same other_is o.is in omega (arith, a.0, b.0, o.below)

pub even_none : (first second : List ℕ) {g h gate gate2 : ℕ} {f q : List ℕ} {os qs : List (List ℕ)} → IsFileOf first g gate f os → IsFileOf second h gate2 q qs → g ≡ h → is_why_unopened (Decayed 0) first second
even_none first second {g} {h} file older even =
    let one : OfGeneration first g = of_file file in
    let two : OfGeneration second g = subst (OfGeneration second) (sym even) (of_file older) in
    (record { no_blanks = λ b. no_blank_file one b.first_is; no_store = λ d s. go one two s.generation d s.which }, inr (inr (inl (refl, record { generation = g; first_is = one; second_is = two }))))
  where
    go : OfGeneration first g → OfGeneration second g → (k : ℕ) (d : Durable) → Counts first second k d ⊎ Counts second first k d → ⊥
    go one two k d (inl c) = even_counts one two k d c
    go one two k d (inr c) = even_counts two one k d c

-- a file that is none of a store

none_first : (first second : List ℕ) → IsNoFile first → AreOfNone first second
none_first first second n = record { no_blanks = λ b. n.no_blank b.first_is; no_store = λ d s. go s.generation d s.which }
  where
    behind : (k : ℕ) → IsBlank first ⊎ IsOlder k first → ⊥
    behind k (inl blank) = n.no_blank blank
    behind k (inr o) = n.no_log o.earlier o.is.first o.is.others o.is.log

    go : (k : ℕ) (d : Durable) → Counts first second k d ⊎ Counts second first k d → ⊥
    go k d (inl c) = n.no_log k c.stands.has.first c.stands.has.others c.stands.has.log
    go k d (inr c) = behind k c.behind

none_second : (first second : List ℕ) → IsNoFile second → AreOfNone first second
none_second first second n = record { no_blanks = λ b. n.no_blank b.second_is; no_store = λ d s. go s.generation d s.which }
  where
    behind : (k : ℕ) → IsBlank second ⊎ IsOlder k second → ⊥
    behind k (inl blank) = n.no_blank blank
    behind k (inr o) = n.no_log o.earlier o.is.first o.is.others o.is.log

    go : (k : ℕ) (d : Durable) → Counts first second k d ⊎ Counts second first k d → ⊥
    go k d (inl c) = behind k c.behind
    go k d (inr c) = n.no_log k c.stands.has.first c.stands.has.others c.stands.has.log

pub no_first : (e : OpenError) (first second : List ℕ) → is_why_no_file e first → is_why_unopened e first second
no_first NoMemory first second why = tt
no_first NotAStore first second why = (none_first first second why.0, inl why.1)
no_first (OtherFormat other) first second why = (none_first first second why.0, inl why.1)
no_first (Decayed at) first second why = (none_first first second why.0, inl why.1)
no_first (Disk e) first second why = why.1

-- a file that was found has no flaw
pub no_flaw_of : (bytes : List ℕ) (o : Option Found) → IsFoundAs bytes o → HasNoFlaw bytes
no_flaw_of bytes None blank = inl blank
no_flaw_of bytes (Some f) file = inr (f.generation, of_file file)

pub no_second : (e : OpenError) (first second : List ℕ) → HasNoFlaw first → is_why_no_file e second → is_why_unopened e first second
no_second NoMemory first second sound why = tt
no_second NotAStore first second sound why = (none_second first second why.0, inr (inl (sound, why.1)))
no_second (OtherFormat other) first second sound why = (none_second first second why.0, inr (inl (sound, why.1)))
no_second (Decayed at) first second sound why = (none_second first second why.0, inr (inl (sound, why.1)))
no_second (Disk e) first second sound why = why.1

-- two blank files stand for nothing
pub blanks_or_store : {first second : List ℕ} {d : Durable} → AreBlank first second → AreFor first second d → ⊥
blanks_or_store {first} {second} {d} blanks a = go a.which
  where
    go : Counts first second a.generation d ⊎ Counts second first a.generation d → ⊥
    go (inl c) = no_blank_log first _ _ blanks.first_is c.stands.has.log
    go (inr c) = no_blank_log second _ _ blanks.second_is c.stands.has.log
