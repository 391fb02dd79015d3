-- The number of each refusal.
use Rattle.std.specs.Prelude.{ℕ}
use Rattle.rules.specs.declared.refusal.SampleRefusal.{SampleRefusal}
use Rattle.rules.specs.declared.refusal.SampleRefusal.TheVariants.{Size, Contacts, Reading, Letter}
use Rattle.rules.specs.declared.refusal.SettingRefusal.{SettingRefusal}
use Rattle.rules.specs.declared.refusal.SettingRefusal.TheVariants.{Range, Term, Full}

abbrev pub sample_number : SampleRefusal → ℕ
sample_number Size = 1
sample_number Contacts = 2
sample_number Reading = 3
sample_number Letter = 17

abbrev pub setting_number : SettingRefusal → ℕ
setting_number Range = 4
setting_number Term = 5
setting_number Full = 6
