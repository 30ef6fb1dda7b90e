-- What one file of a store is found to be.
use Rattle.std.specs.Prelude.{◌≡◌, ◌⊎◌, ◌<◌, ◌≤◌, ◌^◌, ℕ, Bool, true, List, ◌∷◌, ◌++◌, length, take, drop, map, Option, MatchOption, Ok}
use Rattle.std.specs.Global.{Vec}
use Rattle.sled_log.specs.Digest.{digest}
use Rattle.sled_log.specs.Log.{log_of, IsLog}
use Rattle.sled_files.specs.declared.found.Found.{Found}
use Rattle.sled_files.specs.declared.found.OpenError.{OpenError}
use Rattle.sled_files.specs.declared.found.OpenError.TheVariants.{NoMemory, NotAStore, OtherFormat, Decayed}
use Rattle.sled_files.specs.Header.{magic, format, header}
use Rattle.sled_files.specs.Standing.{IsBlank}
use Rattle.sled_files.specs.Flaws.{HasMagic, format_in, IsCutShort, IsFlawOf}

-- a log of this generation: what is behind the header of its first payload, the other payloads, and its closed gate
pub record IsFileOf (bytes : List ℕ) (generation gate : ℕ) (first : List ℕ) (others : List (List ℕ)) : Type 0 where
  pub fits : generation < 2 ^ 64
  pub log : log_of digest bytes ≡ Ok ((header generation ++ first) ∷ others)
  pub is : IsLog digest bytes ((header generation ++ first) ∷ others) gate

-- the same by all payloads
abbrev pub IsFileIn : List ℕ → ℕ → ℕ → List ℕ → List (List ℕ) → Type 0
IsFileIn bytes generation gate first payloads = IsFileOf bytes generation gate first (drop 1 payloads)

-- what a file is found to be: blank, or such a log
abbrev pub IsFoundAs : List ℕ → Option Found → Type 0
IsFoundAs bytes found = MatchOption found (IsBlank bytes) (λ f. IsFileIn bytes f.generation f.gate f.first.now (map (λ p. p.now) f.payloads.items))

-- all bytes of a file: those that were read, and where none were, the disk lends them
abbrev pub AreReadOrLent : Option (Vec ℕ) → Bool → List ℕ → Type 0
AreReadOrLent read lends bytes = MatchOption read (lends ≡ true) (λ r. r.items ≡ bytes)

-- a file that is none of a store: it is not blank, and no log that begins with a header
pub record IsNoFile (bytes : List ℕ) : Type 0 where
  pub no_blank : IsBlank bytes → ⊥
  pub no_log : (generation : ℕ) (first : List ℕ) (others : List (List ℕ)) → log_of digest bytes ≡ Ok ((header generation ++ first) ∷ others) → ⊥

-- why a file is found to be none of a store
abbrev pub is_why_no_file : OpenError → List ℕ → Type 0
is_why_no_file NoMemory bytes = Unit {0}
is_why_no_file e bytes = IsNoFile bytes × IsFlawOf e bytes

-- why a payload does not begin with a header
abbrev pub is_why_headless : OpenError → List ℕ → Type 0
is_why_headless (OtherFormat other) payload = (take 8 payload ≡ magic) × (12 ≤ length payload) × (format_in payload ≡ other) × (other ≡ format → ⊥)
is_why_headless (Decayed place) payload = (place ≡ 17) × IsCutShort payload
is_why_headless _ payload = ⊥

-- the first of these payloads begins with the header of this generation, and then has these bytes
pub record HasHeader (payloads : List (List ℕ)) (generation : ℕ) (first : List ℕ) : Type 0 where
  pub fits : generation < 2 ^ 64
  pub is : payloads ≡ (header generation ++ first) ∷ drop 1 payloads

-- why payloads are not those of a store
pub record IsNoLog (e : OpenError) (payloads : List (List ℕ)) : Type 0 where
  pub payload : List ℕ
  pub others : List (List ℕ)
  pub is : payloads ≡ payload ∷ others
  pub no_header : (generation : ℕ) (first : List ℕ) → payload ≡ header generation ++ first → ⊥
  pub cause : is_why_headless e payload

-- the flaw of a file that has the magic at its place, and of another that it is none of a store
abbrev pub FlawOf : List ℕ → OpenError → OpenError → Type 0
FlawOf bytes flaw told = (HasMagic bytes × (told ≡ flaw)) ⊎ ((HasMagic bytes → ⊥) × (told ≡ NotAStore))
