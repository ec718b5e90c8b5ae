-- The words of a line as slice patterns tell them, beside the words of commands.
use Rattle.std.proofs.Common.{◌≡◌, ◌≢◌, ℕ, zero, suc, ◌+◌, ◌<◌, false, List, [], ◌∷◌, length, get_or, codes, bytes_eq, Bor, Vec, Global, Result, Ok, Err, IsErrAnd, lit<, add-one, refl, sym, ap, ◌∙◌, arith}
use Rattle.std.proofs.lemmas.List.{get_or-map, length-map}
use Rattle.std.proofs.lemmas.Slice.Eq.{bytes_eq-Decides}
use Rattle.devices.specs.declared.plans.EndpointPlan.{EndpointPlan}
use Rattle.pipes.specs.declared.pipes.PipePlan.{PipePlan}
use Rattle.scripts.specs.Commands.{texts, written, Fits}
use Rattle.scripts.specs.Words.{Reads}
use Rattle.scripts.specs.declared.commands.Command.{Command}
use Rattle.scripts.specs.declared.commands.Command.TheVariants.{Nothing, New, Drive, Endpoint, Packet, Fates, Put, Get, Frame, Call, Show}
use Rattle.scripts.specs.declared.errors.LineError.{LineError}
use Rattle.scripts.specs.declared.errors.LineError.TheVariants.{NotUnderstood}
use Rattle.service.specs.declared.calls.Call.TheVariants.{Open, Send, Fetch, Recover, Look, Close}

pub as_many : (words : List (Bor (List ℕ))) (xs : List (List ℕ)) → texts words ≡ xs → length words ≡ length xs
as_many words xs e = sym (length-map words (λ word. word.now)) ∙ ap length e

-- a word is the one that is written in its place
pub at : (words : List (Bor (List ℕ))) (xs : List (List ℕ)) (k : ℕ) (d : Bor (List ℕ)) → texts words ≡ xs → k < length xs → (get_or words k d).now ≡ get_or xs k []
at words xs k d e below =
    let there : k < length words = rw (as_many words xs e) below in
    sym (get_or-map (λ word. word.now) words k d [] there) ∙ ap (λ (ws : List (List ℕ)). get_or ws k []) e

-- what a slice pattern reads past the end
abbrev pub no_word : Bor (List ℕ)
no_word = record { ref_ptr = (0, 0); now = [] }

-- so many words, and the first is the name
pub record HasForm (words : List (Bor (List ℕ))) (name : List ℕ) (count : ℕ) : Type 0 where
  pub long : length words ≡ count
  pub name_is : (get_or words 0 no_word).now ≡ name

-- the error that a word gave is the line's
pub refused : (words : List (List ℕ)) (r : Result Command LineError) (e : LineError) → IsErrAnd r (λ x. x ≡ e) → (e ≡ NotUnderstood → (x : Command) → Fits x → words ≢ written x)
    → Reads written Fits words r
refused words (Err x) e same none = λ is. none (sym same ∙ is)
refused words (Ok x) e same none = absurd same

-- a command of another name is not written so
mismatch : (ws xs : List (List ℕ)) (name : List ℕ) → bytes_eq (get_or xs 0 []) name ≡ false → get_or ws 0 [] ≡ name → ws ≢ xs
mismatch ws xs name other named e =
    cc (sym other ∙ (bytes_eq-Decides (get_or xs 0 []) name).1 (ap (λ (ys : List (List ℕ)). get_or ys 0 []) (sym e) ∙ named))

module _ (words : List (Bor (List ℕ))) where
  abbrev word : ℕ → List ℕ
  word k = (get_or words k no_word).now

  other_name : (x : Command) (name : List ℕ) (count : ℕ) → bytes_eq (get_or (written x) 0 []) name ≡ false → HasForm words name (suc count) → texts words ≢ written x
  other_name x name count other form =
      let some : 0 < length words = omega (arith, form.long) in
      mismatch (texts words) (written x) name other (get_or-map (λ word. word.now) words 0 no_word [] some ∙ form.name_is)

  pub cell_only : HasForm words (codes "cell") 7 → ((p : EndpointPlan) → Fits (Endpoint p) → texts words ≢ written (Endpoint p)) → (x : Command) → Fits x → texts words ≢ written x
  cell_only form none (Endpoint p) fits e = none p fits e
  cell_only form none (Call (Look n)) fits e = other_name (Call (Look n)) (codes "cell") 6 refl form e
  cell_only form none x fits e = other_name x (codes "cell") 6 refl form e

  pub wait_only : HasForm words (codes "wait") 4 → ((a n : ℕ) (bytes : Vec ℕ Global) → Fits (Packet a n bytes) → texts words ≢ written (Packet a n bytes)) → (x : Command) → Fits x → texts words ≢ written x
  wait_only form none (Packet a n bytes) fits e = none a n bytes fits e
  wait_only form none (Call (Look n)) fits e = other_name (Call (Look n)) (codes "wait") 3 refl form e
  wait_only form none x fits e = other_name x (codes "wait") 3 refl form e

  pub open_only : HasForm words (codes "open") 7 → ((n : ℕ) (p : PipePlan) → Fits (Call (Open n p)) → texts words ≢ written (Call (Open n p))) → (x : Command) → Fits x → texts words ≢ written x
  open_only form none (Call (Open n p)) fits e = none n p fits e
  open_only form none x fits e = other_name x (codes "open") 6 refl form e

  pub fetch_only : HasForm words (codes "fetch") 3 → ((n : ℕ) (buffer : Vec ℕ Global) → Fits (Call (Fetch n buffer)) → texts words ≢ written (Call (Fetch n buffer))) → (x : Command) → Fits x → texts words ≢ written x
  fetch_only form none (Call (Fetch n buffer)) fits e = none n buffer fits e
  fetch_only form none x fits e = other_name x (codes "fetch") 2 refl form e

  -- words that have the form of no command write none
  pub unwritten : (length words ≡ 1 → (word 0 ≢ codes "new") × (word 0 ≢ codes "show"))
      → (length words ≡ 2 → (word 0 ≢ codes "bus") × (word 0 ≢ codes "fates") × (word 0 ≢ codes "get") × (word 0 ≢ codes "frame") × (word 0 ≢ codes "recover") × (word 0 ≢ codes "look") × (word 0 ≢ codes "close"))
      → (length words ≡ 3 → (word 0 ≢ codes "put") × (word 0 ≢ codes "send") × (word 0 ≢ codes "fetch"))
      → (length words ≡ 4 → word 0 ≢ codes "wait")
      → (length words ≡ 7 → (word 0 ≢ codes "cell") × (word 0 ≢ codes "open"))
      → (x : Command) → Fits x → texts words ≢ written x
  unwritten one two three four seven Nothing fits e = fits
  unwritten one two three four seven New fits e = (one (as_many words _ e)).0 (at words _ 0 no_word e (lit< tt))
  unwritten one two three four seven (Drive bus) fits e = (two (as_many words _ e)).0 (at words _ 0 no_word e (lit< tt))
  unwritten one two three four seven (Endpoint p) fits e = (seven (as_many words _ e)).0 (at words _ 0 no_word e (lit< tt))
  unwritten one two three four seven (Packet a n bytes) fits e = four (as_many words _ e) (at words _ 0 no_word e (lit< tt))
  unwritten one two three four seven (Fates bytes) fits e = (two (as_many words _ e)).1 (at words _ 0 no_word e (lit< tt))
  unwritten one two three four seven (Put r v) fits e = (three (as_many words _ e)).0 (at words _ 0 no_word e (lit< tt))
  unwritten one two three four seven (Get r) fits e = (two (as_many words _ e)).2 (at words _ 0 no_word e (lit< tt))
  unwritten one two three four seven (Frame bytes) fits e = (two (as_many words _ e)).3 (at words _ 0 no_word e (lit< tt))
  unwritten one two three four seven (Call (Open n p)) fits e = (seven (as_many words _ e)).1 (at words _ 0 no_word e (lit< tt))
  unwritten one two three four seven (Call (Send n message)) fits e = (three (as_many words _ e)).1 (at words _ 0 no_word e (lit< tt))
  unwritten one two three four seven (Call (Fetch n buffer)) fits e = (three (as_many words _ e)).2 (at words _ 0 no_word e (lit< tt))
  unwritten one two three four seven (Call (Recover n)) fits e = (two (as_many words _ e)).4 (at words _ 0 no_word e (lit< tt))
  unwritten one two three four seven (Call (Look n)) fits e = (two (as_many words _ e)).5 (at words _ 0 no_word e (lit< tt))
  unwritten one two three four seven (Call (Close n)) fits e = (two (as_many words _ e)).6 (at words _ 0 no_word e (lit< tt))
  unwritten one two three four seven Show fits e = (one (as_many words _ e)).1 (at words _ 0 no_word e (lit< tt))

-- the first n words, from the k-th on
abbrev pub listed : List (Bor (List ℕ)) → ℕ → ℕ → List (List ℕ)
listed words k zero = []
listed words k (suc n) = (get_or words k no_word).now ∷ listed words (k + 1) n

later : (w : Bor (List ℕ)) (ws : List (Bor (List ℕ))) (k n : ℕ) → listed (w ∷ ws) (k + 1) n ≡ listed ws k n
later w ws k zero = refl
later w ws k (suc n) = rw (add-one, later w ws (suc k) n) refl

-- words, one by one
pub spelled : (words : List (Bor (List ℕ))) → texts words ≡ listed words 0 (length words)
spelled [] = refl
spelled (w ∷ ws) = ap (λ (rest : List (List ℕ)). w.now ∷ rest) (spelled ws ∙ sym (later w ws 0 (length ws)))

-- the same words, one by one
pub three_words : (ws : List (List ℕ)) (a b c a' b' c' : List ℕ) → ws ≡ a ∷ b ∷ c ∷ [] → a ≡ a' → b ≡ b' → c ≡ c' → ws ≡ a' ∷ b' ∷ c' ∷ []
three_words ws a b c a' b' c' e p q r = cc

pub seven_words : (ws : List (List ℕ)) (a b c d f g h a' b' c' d' f' g' h' : List ℕ) → ws ≡ a ∷ b ∷ c ∷ d ∷ f ∷ g ∷ h ∷ []
    → a ≡ a' → b ≡ b' → c ≡ c' → d ≡ d' → f ≡ f' → g ≡ g' → h ≡ h' → ws ≡ a' ∷ b' ∷ c' ∷ d' ∷ f' ∷ g' ∷ h' ∷ []
seven_words ws a b c d f g h a' b' c' d' f' g' h' e p q r s t u v = cc
