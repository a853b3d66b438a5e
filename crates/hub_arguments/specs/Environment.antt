-- The socket for words that name none, by what the environment has and by the user.
use Rattle.std.specs.Prelude.{◌≡◌, ◌==◌, ℕ, zero, suc, List, [], ◌∷◌, ◌++◌, codes, Bool, true, false, Option, None, Some, IfOk, IsErr, MatchBool, Result, Ok, Err, String, string_bytes, string_len}
use Rattle.std.specs.declared.alloc.AllocError.{AllocError}
use Rattle.std.specs.declared.alloc.Global.{Global}
use Rattle.std.specs.declared.env.VarError.{VarError}
use Rattle.std.specs.declared.env.VarError.TheVariants.{NotPresent, NotUnicode, OutOfMemory}
use Rattle.hub_arguments.specs.declared.socket.OwnSocket.{OwnSocket}
use Rattle.hub_arguments.specs.declared.socket.OwnSocket.TheVariants.{Named, OfRoot, OfUser}

abbrev pub path_of : OwnSocket → List ℕ
path_of (Named path) = string_bytes path
path_of OfRoot = codes "/run/ftrighub/hub.socket"
path_of (OfUser path) = string_bytes path

abbrev pub is_roots : OwnSocket → Bool
is_roots (Named path) = false
is_roots OfRoot = true
is_roots (OfUser path) = false

-- a path from the root of all files
abbrev pub is_absolute : List ℕ → Bool
is_absolute [] = false
is_absolute (b ∷ bs) = b == 47

-- it is in this folder of the user
abbrev pub IsIn : (folder : List ℕ) → Option OwnSocket → Type 0
IsIn folder (Some (OfUser path)) = string_bytes path ≡ folder ++ codes "/ftrighub.socket"
IsIn folder other = ⊥

-- the socket of a user who isn't root, if this was found for the user's folder
abbrev pub IsOfUser : (folder : Result (String Global) VarError) → Result (Option OwnSocket) AllocError → Type 0
IsOfUser (Ok folder) result = MatchBool (is_absolute (string_bytes folder)) (IfOk result (IsIn (string_bytes folder))) (result ≡ Ok None)
IsOfUser (Err NotPresent) result = result ≡ Ok None
IsOfUser (Err NotUnicode) result = result ≡ Ok None
IsOfUser (Err OutOfMemory) result = IsErr result

-- the socket of the user with this number, if none is named
abbrev pub IsOf : (user : ℕ) → (folder : Result (String Global) VarError) → Result (Option OwnSocket) AllocError → Type 0
IsOf zero folder result = result ≡ Ok (Some OfRoot)
IsOf (suc user) folder result = IsOfUser folder result

-- The socket, if this was found for its name: the one that is named, unless the text is empty, or else that of the user.
abbrev pub IsDerived : (named : Result (String Global) VarError) → (user : ℕ) → (folder : Result (String Global) VarError) → Result (Option OwnSocket) AllocError → Type 0
IsDerived (Ok path) user folder result = MatchBool (string_len path == 0) (IsOf user folder result) (result ≡ Ok (Some (Named path)))
IsDerived (Err NotPresent) user folder result = IsOf user folder result
IsDerived (Err NotUnicode) user folder result = IsOf user folder result
IsDerived (Err OutOfMemory) user folder result = IsErr result

-- Where a hub that doesn't end is served, and whether the folder of its socket is made: at the path that the words name, or else at the
-- known one, and only root's folder is made. text gives the bytes of a path, and socket what is known.
abbrev pub IsServedAt : {Text Known : Type 0} → (text : Text → List ℕ) → (socket : Known → OwnSocket) → (named : Option Text) → (known : Option Known) → (path : List ℕ) → (makes : Bool) → Type 0
IsServedAt text socket (Some name) known path makes = (path ≡ text name) × (makes ≡ false)
IsServedAt text socket None (Some own) path makes = (path ≡ path_of (socket own)) × (makes ≡ is_roots (socket own))
IsServedAt text socket None None path makes = (path ≡ []) × (makes ≡ false)
