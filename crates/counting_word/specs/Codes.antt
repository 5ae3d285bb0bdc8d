-- Rights and entries of a log as numbers, by which proofs tell them apart and ghost state keeps them.
use Rattle.std.specs.Prelude.{◌≡◌, ℕ, zero, suc, refl, List}
use Rattle.std.specs.Coded.{Coded, code_by, coded_ℕ, coded_list, coded×}
use Rattle.counting_word.specs.Rights.{Right, nothing, a_handle, to_lower, whole_block}
use Rattle.counting_word.specs.WordSteps.{reads, asks, raises_from, reads_for_drop, lowers, reads_for_unique}
use Rattle.counting_word.specs.WordSteps.{marks}
use Rattle.counting_word.specs.Logs.{EntryKind, atomic, static_handle, static_birth, Entry}

abbrev right_number : Right → ℕ
right_number nothing = 0
right_number a_handle = 1
right_number to_lower = 2
right_number (whole_block word) = suc (suc (suc word))

abbrev right_of : ℕ → Right
right_of zero = nothing
right_of (suc zero) = a_handle
right_of (suc (suc zero)) = to_lower
right_of (suc (suc (suc word))) = whole_block word

pub right_of-number : (r : Right) → right_of (right_number r) ≡ r
right_of-number nothing = refl
right_of-number a_handle = refl
right_of-number to_lower = refl
right_of-number (whole_block word) = refl

abbrev pub coded_right : Coded Right
coded_right = code_by ℕ coded_ℕ right_number right_of right_of-number

abbrev kind_number : EntryKind → ℕ
kind_number static_handle = 0
kind_number static_birth = 1
kind_number (atomic reads) = 2
kind_number (atomic asks) = 3
kind_number (atomic reads_for_drop) = 4
kind_number (atomic lowers) = 5
kind_number (atomic reads_for_unique) = 6
kind_number (atomic marks) = 7
kind_number (atomic (raises_from seen)) = suc (suc (suc (suc (suc (suc (suc (suc seen)))))))

abbrev kind_of : ℕ → EntryKind
kind_of zero = static_handle
kind_of (suc zero) = static_birth
kind_of (suc (suc zero)) = atomic reads
kind_of (suc (suc (suc zero))) = atomic asks
kind_of (suc (suc (suc (suc zero)))) = atomic reads_for_drop
kind_of (suc (suc (suc (suc (suc zero))))) = atomic lowers
kind_of (suc (suc (suc (suc (suc (suc zero)))))) = atomic reads_for_unique
kind_of (suc (suc (suc (suc (suc (suc (suc zero))))))) = atomic marks
kind_of (suc (suc (suc (suc (suc (suc (suc (suc seen)))))))) = atomic (raises_from seen)

pub kind_of-number : (k : EntryKind) → kind_of (kind_number k) ≡ k
kind_of-number static_handle = refl
kind_of-number static_birth = refl
kind_of-number (atomic reads) = refl
kind_of-number (atomic asks) = refl
kind_of-number (atomic reads_for_drop) = refl
kind_of-number (atomic lowers) = refl
kind_of-number (atomic reads_for_unique) = refl
kind_of-number (atomic marks) = refl
kind_of-number (atomic (raises_from seen)) = refl

abbrev pub coded_kind : Coded EntryKind
coded_kind = code_by ℕ coded_ℕ kind_number kind_of kind_of-number

abbrev pub coded_entry : Coded Entry
coded_entry = code_by (ℕ × EntryKind) (coded× coded_ℕ coded_kind) (λ e. (e.handle, e.kind))
    (λ p. record { handle = p.0; kind = p.1 }) (λ _. refl)

abbrev pub coded_log : Coded (List Entry)
coded_log = coded_list coded_entry
