-- What the story's contacts say.
use Rattle.std.specs.Prelude.{ℕ, List, Result}
use Rattle.rules.specs.declared.refusal.SampleRefusal.{SampleRefusal}
use Rattle.encoders.specs.Contact.{contact_codes}
use Rattle.encoders.specs.Holding.{no_terms, with_term}

-- four contacts, and condition k holds where contact k is closed
abbrev pub story_terms : List (List (ℕ × ℕ))
story_terms = with_term 3 (8, 8) (with_term 2 (4, 4) (with_term 1 (2, 2) (with_term 0 (1, 1) no_terms)))

abbrev pub story_codes : List ℕ → Result ℕ SampleRefusal
story_codes = contact_codes 4 story_terms
