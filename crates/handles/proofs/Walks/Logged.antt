-- The result of a step that leaves no right: the word that it found, and that it is in the log. Assumes `Logic`.
use Rattle.std.proofs.Common.{◌≡◌, ℕ, ◌^◌, ◌<◌, List, [], ◌∷◌, refl, w64}
use seplogic.Ra.Ura.{Ura}
use lib.Dec.{T}
use mir.Syntax.{ty_int, ty_struct, tcons, tnil}
use mir.Val.{Val, vint, vstruct, vcons, vnil, has_ty, WT}
use base.Logic.{ent, emp}
use types.Logic.{Logic, sem}
use types.Kit.{Item, Goal, Step, step, ‵, ◌$◌, fjoin, use0}
use denote.RattleType.{RattleType}
use denote.Laws.{Is}
use denote.Builtin.{u64}
use denote.Shadow.{makes_shadow}
use denote.Struct.Owning.{shape}
use denote.Struct.Struct.{Struct}
use denote.Struct.Tuple.{Tuple}
use Rattle.counting_word.specs.Logs.{Entry}
use Rattle.handles.specs.Inside.Blocks.{BlockId, reached}
use Rattle.handles.specs.contracts.block.permit.Logged as logged_type
use Rattle.handles.proofs.Walks.Fields.{with_word}

-- a word, and that a step is in the log, which has no bytes
abbrev pub word_and_logged : ℕ → Val
word_and_logged n = vstruct (vcons (vint w64 n) (vcons (vstruct vnil) vnil))

-- they are a value of their type if the word fits
pub word_and_logged-Good : (n : ℕ) → n < 2 ^ 64
    → T (has_ty (ty_struct [] (tcons (ty_int w64) (tcons (ty_struct [] tnil) tnil))) (word_and_logged n))
    × WT (word_and_logged n)
word_and_logged-Good n fits = (tt, (record { fits = fits }, (tt, tt)))

-- `Logged` as a type of the logic
abbrev pub LoggedRow : RattleType
LoggedRow = logged_type.the_row

-- its fields, which are none
abbrev pub NoBytes : RattleType
NoBytes = Struct (shape logged_type.the_type)

-- they are made of nothing
pub no_bytes-made : {M : Type 1} {𝓤 : Ura M} (𝓛 : Logic 𝓤)
    → ent 𝓤 (emp 𝓤) (sem 𝓛 (NoBytes.own_val tt (vstruct vnil ∷ [])))
no_bytes-made 𝓛 = makes_shadow 𝓛 (NoBytes.own_val tt (vstruct vnil ∷ [])) (λ vss. (tt, tt)) (tt, (refl, tt))

-- and tell their machine value
pub no_bytes_told : (vs : List Val) → Is NoBytes tt vs → vs ≡ vstruct vnil ∷ []
no_bytes_told vs is = is.1.0

module _ (id : BlockId) (n : ℕ) {M : Type 1} {𝓤 : Ura M} {𝓛 : Logic 𝓤} {K : Type 0} {Γ : List (Item 𝓤)} {G : Goal
    𝓤 𝓛.H} where
  -- the result of a step that gives no right: the word that it found, and what is in the log
  pub returns_logged : K → n < 2 ^ 64 → (log : List Entry)
      → Step K 𝓛 (‵ ((Tuple (u64 ∷ LoggedRow ∷ [])).own_val (n, record { id = id; log = log }) (word_and_logged n ∷ []))
      ∷ Γ)
      G (‵ (reached id log) ∷ Γ) G
  returns_logged t fits log = step (λ s. use0 𝓛 (‵ (NoBytes.own_val tt (vstruct vnil ∷ []))) (no_bytes-made 𝓛) $
      fjoin t $ with_word t LoggedRow (record { id = id; log = log }) (vstruct vnil) n fits $ s)
