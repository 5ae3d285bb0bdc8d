-- How the lines of a text follow from the lines of what is left of it.
use Rattle.std.proofs.Common.{◌≡◌, ◌≢◌, ℕ, ◌+◌, ◌<◌, ◌≤◌, ◌==◌, true, List, [], ◌∷◌, ◌++◌, length, get_or, take, drop}
use Rattle.std.proofs.Common.{refl, sym, ap, ◌∙◌, ⊎_elim, arith, subst, append_assoc}
use Rattle.std.specs.List.{All, flat_map, onto_first, slice_index}
use Rattle.std.proofs.lemmas.Bool.{eqb-true, ne_eqb}
use Rattle.std.proofs.lemmas.Bool.Decides.{eqb_tells}
use Rattle.std.proofs.lemmas.List.{drop_more, get_or-take, get_or_default, length-take, take-append-drop}
use Rattle.std.proofs.lemmas.List.Elements.{All-cons, All-head, All-nil, All-tail}
use Rattle.scripts.specs.Laws.{AreLines, EachTextHasItsLines, IsUnbroken, line_if_any}
use Rattle.scripts.specs.Script.{line_feed, lines_of}

IsNoFeed : ℕ → Type 0
IsNoFeed byte = byte ≢ line_feed

-- a byte that is no line feed belongs to the first line
more : (byte : ℕ) (text : List ℕ) → byte ≢ line_feed → lines_of (byte ∷ text) ≡ onto_first byte (lines_of text)
more byte text apart = rw (ne_eqb byte line_feed apart) refl

-- what stands before a line feed is a line
pub line_then : (line rest : List ℕ) → IsUnbroken line → lines_of (line ++ line_feed ∷ rest) ≡ line ∷ lines_of rest
line_then [] rest h = refl
line_then (byte ∷ line) rest h =
    more byte (line ++ line_feed ∷ rest) (All-head (λ b. b ≢ line_feed) byte line h)
    ∙ ap (onto_first byte) (line_then line rest (All-tail (λ b. b ≢ line_feed) byte line h))

-- a text with no line feed is a line, if it is not empty
pub line_alone : (text : List ℕ) → IsUnbroken text → lines_of text ≡ line_if_any text
line_alone [] h = refl
line_alone (byte ∷ text) h =
    more byte text (All-head (λ b. b ≢ line_feed) byte text h)
    ∙ ap (onto_first byte) (line_alone text (All-tail (λ b. b ≢ line_feed) byte text h)) ∙ joined text
  where
    joined : (rest : List ℕ) → onto_first byte (line_if_any rest) ≡ (byte ∷ rest) ∷ []
    joined [] = refl
    joined (b ∷ rest) = refl

-- no byte before this place is a line feed
abbrev IsUnbrokenUpTo : List ℕ → ℕ → Type 0
IsUnbrokenUpTo text at = (k : ℕ) → 0 ≤ k → k < at → ¬ (slice_index text k == line_feed ≡ true)

unbroken : (text line : List ℕ) (at : ℕ) → length line ≤ at
    → ((k : ℕ) (d : ℕ) → k < length line → get_or line k d ≡ get_or text k 0) → IsUnbrokenUpTo text at → IsUnbroken line
unbroken text line at within same none k d below is =
    none k (omega arith) (omega arith) (ap (λ byte. byte == line_feed) (sym (same k d below) ∙ is))

-- a text up to its first line feed is a line
pub line_up_to : (text : List ℕ) (at : ℕ) → at < length text → IsUnbrokenUpTo text at
    → slice_index text at == line_feed ≡ true → lines_of text ≡ take at text ∷ lines_of (drop (at + 1) text)
line_up_to text at within none feed =
    let len : length (take at text) ≡ at = omega (arith, length-take at text) in
    let line : IsUnbroken (take at text) = unbroken text (take at text) at (omega arith) (λ k d below.
    get_or-take at text k d (omega arith) ∙ get_or_default text k d 0 (omega arith)) none in
    let here : drop at text ≡ line_feed ∷ drop (at + 1) text =
    drop_more text at 0 within ∙ ap (λ byte. byte ∷ drop (at + 1) text) (eqb-true _ line_feed feed) in
    let parts : text ≡ take at text ++ line_feed ∷ drop (at + 1) text =
    sym (take-append-drop at text) ∙ ap (λ rest. take at text ++ rest) here in
    ap lines_of parts ∙ line_then (take at text) (drop (at + 1) text) line

-- a text with no line feed is a line, if it is not empty
pub only_line : (text : List ℕ) → 0 < length text → IsUnbrokenUpTo text (length text) → lines_of text ≡ text ∷ []
only_line [] some none = absurd (omega arith)
only_line (byte ∷ text) some none =
    line_alone (byte ∷ text) (unbroken (byte ∷ text) (byte ∷ text) (length (byte ∷ text)) (omega arith)
    (λ k d below. get_or_default (byte ∷ text) k d 0 below) none)

-- a byte before the first line of a text
longer : (byte : ℕ) (text : List ℕ) (ended : List (List ℕ)) (last : List ℕ)
    → byte ≢ line_feed → text ≡ flat_map (λ line. line ++ line_feed ∷ []) ended ++ last → All IsUnbroken ended
    → IsUnbroken last → AreLines (byte ∷ text) (onto_first byte (ended ++ line_if_any last))
longer byte text [] last apart e whole left = record {
  ended = [];
  last = byte ∷ last;
  text_is = ap (λ bytes. byte ∷ bytes) e;
  lines_are = joined last;
  unbroken = (All-nil IsUnbroken, All-cons (λ b. b ≢ line_feed) byte last apart left);
}
  where
    joined : (rest : List ℕ) → onto_first byte (line_if_any rest) ≡ (byte ∷ rest) ∷ []
    joined [] = refl
    joined (b ∷ rest) = refl
longer byte text (line ∷ ended) last apart e whole left = record {
  ended = (byte ∷ line) ∷ ended;
  last = last;
  text_is = ap (λ bytes. byte ∷ bytes) e;
  lines_are = refl;
  unbroken = (
    All-cons IsUnbroken (byte ∷ line) ended (All-cons (λ b. b ≢ line_feed)
        byte line apart (All-head IsUnbroken line ended whole)) (All-tail IsUnbroken line ended whole),
    left,
  );
}

are_lines : (text : List ℕ) → AreLines text (lines_of text)
are_lines [] = record {
  ended = [];
  last = [];
  text_is = refl;
  lines_are = refl;
  unbroken = (All-nil IsUnbroken, All-nil (λ b. b ≢ line_feed));
}
are_lines (byte ∷ text) =
    let a = are_lines text in
    ⊎_elim
    (λ same. subst (λ b. AreLines (b ∷ text) (lines_of (b ∷ text))) (sym same.1) (record {
      ended = [] ∷ a.ended;
      last = a.last;
      text_is = ap (λ bytes. line_feed ∷ bytes) a.text_is;
      lines_are = ap (λ lines. [] ∷ lines) a.lines_are;
      unbroken = (All-cons IsUnbroken [] a.ended (All-nil (λ b. b ≢ line_feed)) a.unbroken.0, a.unbroken.1);
    }))
    (λ other. subst (AreLines (byte ∷ text)) (ap (onto_first byte) (sym a.lines_are) ∙ sym (more byte text other.1))
    (longer byte text a.ended a.last other.1 a.text_is a.unbroken.0 a.unbroken.1))
    (eqb_tells byte line_feed)

-- lines that are written one after the other are its lines
parted : (ended : List (List ℕ)) (last : List ℕ) → All IsUnbroken ended → IsUnbroken last
    → lines_of (flat_map (λ line. line ++ line_feed ∷ []) ended ++ last) ≡ ended ++ line_if_any last
parted [] last h k = line_alone last k
parted (line ∷ ended) last h k =
    simp append_assoc (line_then line (flat_map (λ l. l ++ line_feed ∷ []) ended ++ last)
    (All-head IsUnbroken line ended h)
    ∙ ap (λ lines. line ∷ lines) (parted ended last (All-tail IsUnbroken line ended h) k))

pub each_text_has_its_lines : EachTextHasItsLines
each_text_has_its_lines text = (
  are_lines text,
  λ others a. ap lines_of a.text_is ∙ parted a.ended a.last a.unbroken.0 a.unbroken.1 ∙ sym a.lines_are,
)
