-- What holds of every word holds at every place.
use Rattle.std.proofs.Common.{◌≡◌, true, not}
use Rattle.std.proofs.lemmas.Bool.{both_ways, not-true, not_from_false, false_from_ne_true}
use Rattle.std.proofs.lemmas.List.Elements.{All-get_or, All-from_get_or}
use Rattle.std.proofs.lemmas.List.Sums.{AllPass-from_list_all, list_all-from_AllPass}
use Rattle.rules.specs.Words.{has}
use Rattle.patterns.specs.Laws.{AlwaysByPlaces, NeverByPlaces}

pub always_by_places : AlwaysByPlaces
always_by_places c l = (
  λ e k within. All-get_or (λ w. has c w ≡ true) l k 0 within (AllPass-from_list_all (has c) l e),
  λ at. list_all-from_AllPass (has c) l (All-from_get_or (λ w. has c w ≡ true) l 0 at),
)

pub never_by_places : NeverByPlaces
never_by_places c l = (
  λ e k within h. both_ways _ (not-true _ (All-get_or (λ w. not (has c w) ≡ true) l k 0 within (AllPass-from_list_all (λ w. not (has c w)) l e))) h,
  λ at. list_all-from_AllPass (λ w. not (has c w)) l
      (All-from_get_or (λ w. not (has c w) ≡ true) l 0 (λ k within. not_from_false _ (false_from_ne_true _ (at k within)))),
)
