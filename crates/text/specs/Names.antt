-- The words that the format names its calls and relations by, as bytes.
use Rattle.std.specs.Prelude.{ℕ, List, [], ◌∷◌}

-- `reset`
abbrev pub reset_name : List ℕ
reset_name = 114 ∷ 101 ∷ 115 ∷ 101 ∷ 116 ∷ []

-- `fetch`
abbrev pub fetch_name : List ℕ
fetch_name = 102 ∷ 101 ∷ 116 ∷ 99 ∷ 104 ∷ []

-- `value`
abbrev pub value_name : List ℕ
value_name = 118 ∷ 97 ∷ 108 ∷ 117 ∷ 101 ∷ []

-- `hascon`
abbrev pub hascon_name : List ℕ
hascon_name = 104 ∷ 97 ∷ 115 ∷ 99 ∷ 111 ∷ 110 ∷ []

-- `hasedit`
abbrev pub hasedit_name : List ℕ
hasedit_name = 104 ∷ 97 ∷ 115 ∷ 101 ∷ 100 ∷ 105 ∷ 116 ∷ []

-- `clip`
abbrev pub clip_name : List ℕ
clip_name = 99 ∷ 108 ∷ 105 ∷ 112 ∷ []

-- `remove`
abbrev pub remove_name : List ℕ
remove_name = 114 ∷ 101 ∷ 109 ∷ 111 ∷ 118 ∷ 101 ∷ []

-- `removeedit`
abbrev pub removeedit_name : List ℕ
removeedit_name = 114 ∷ 101 ∷ 109 ∷ 111 ∷ 118 ∷ 101 ∷ 101 ∷ 100 ∷ 105 ∷ 116 ∷ []

-- `addedit`
abbrev pub addedit_name : List ℕ
addedit_name = 97 ∷ 100 ∷ 100 ∷ 101 ∷ 100 ∷ 105 ∷ 116 ∷ []

-- `suggest`
abbrev pub suggest_name : List ℕ
suggest_name = 115 ∷ 117 ∷ 103 ∷ 103 ∷ 101 ∷ 115 ∷ 116 ∷ []

-- `create`
abbrev pub create_name : List ℕ
create_name = 99 ∷ 114 ∷ 101 ∷ 97 ∷ 116 ∷ 101 ∷ []

-- `add`
abbrev pub add_name : List ℕ
add_name = 97 ∷ 100 ∷ 100 ∷ []

-- `addg`
abbrev pub addg_name : List ℕ
addg_name = 97 ∷ 100 ∷ 100 ∷ 103 ∷ []

-- `drop`
abbrev pub drop_name : List ℕ
drop_name = 100 ∷ 114 ∷ 111 ∷ 112 ∷ []

-- `le`
abbrev pub le_name : List ℕ
le_name = 108 ∷ 101 ∷ []

-- `eq`
abbrev pub eq_name : List ℕ
eq_name = 101 ∷ 113 ∷ []

-- `ge`
abbrev pub ge_name : List ℕ
ge_name = 103 ∷ 101 ∷ []
