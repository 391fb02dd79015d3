-- One call after another.
use Rattle.std.proofs.Common.{◌≡◌, ℕ, ◌+◌, ◌<◌, Bool, List, [], ◌∷◌, ◌++◌, length, get_or, drop, sym, ap, ◌∙◌}
use Rattle.std.proofs.lemmas.List.{append_assoc, drop_more}
use Rattle.runs.specs.declared.Call.{Call}
use Rattle.runs.specs.declared.Answer.{Answer}
use Rattle.watch.specs.Accepted.{Codes, Samples}
use Rattle.runs.specs.Runs.{answer_to, list_after, answers}

pub answered : (codes codes' : Codes) (size size' : ℕ) (rule rule' : List ℕ → Bool) (cur : Samples) (calls : List Call) (i : ℕ) (d : Call) (a : Answer) (items items' total : List Answer)
    → codes' ≡ codes → size' ≡ size → rule' ≡ rule → i < length calls → a ≡ answer_to codes' size' rule' cur (get_or calls i d) → items' ≡ items ++ a ∷ []
    → items ++ answers codes size rule cur (drop i calls) ≡ total
    → items' ++ answers codes size rule (list_after codes' size' cur (get_or calls i d)) (drop (i + 1) calls) ≡ total
answered codes codes' size size' rule rule' cur calls i d a items items' total k z m h e f inv =
    let call = get_or calls i d in
    let later : Samples → List Answer = λ l. answers codes size rule l (drop (i + 1) calls) in
    let is : a ≡ answer_to codes size rule cur call = e ∙ (λ j. answer_to (k j) (z j) (m j) cur call) in
    let here : drop i calls ≡ call ∷ drop (i + 1) calls = drop_more calls i d h in
    let moved : list_after codes' size' cur call ≡ list_after codes size cur call = λ j. list_after (k j) (z j) cur call in
    (λ j. f j ++ later (moved j))
    ∙ (append_assoc items (a ∷ []) (later (list_after codes size cur call))
    ∙ (ap (λ (x : Answer). items ++ x ∷ later (list_after codes size cur call)) is
    ∙ (ap (λ (cs : List Call). items ++ answers codes size rule cur cs) (sym here) ∙ inv)))
