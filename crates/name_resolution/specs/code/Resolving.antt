-- What looking up the names in a part of a program answers: the part with numbers in their place; or `NoMember`, where one
-- of its names isn't there (docs/machine.md, "Loading").
use Rattle.std.specs.{Borrow.{Bor}, Prelude.{◌≡◌, ℕ, List, Option, Result, MatchOption, Any}, List.{AllZip}}
use Rattle.basic_types.specs.declared.qtype.QType.{QType}
use Rattle.syntax_trees.specs.{declared.syntax.Path.{Path}, declared.program.Property.{Property}, declared.program.Class.{Class}, declared.program.Program.{Program}}
use Rattle.class_outlines.specs.declared.fault.MetaFault.TheVariants as fault
use Rattle.meta_model.specs.{declared.object.MetaRoot.{MetaRoot}, declared.object.MetaPath.{MetaPath}, declared.object.Step.{Step}}
use Rattle.class_outlines.specs.{declared.offence.LoadFault.{LoadFault}, declared.offence.PartFault.{PartFault}, declared.outline.Heading.{Heading}, declared.outline.Outline.{Outline}, Ends.{IsEnd}, Offences.{LoadsPart, LoadsIn, LoadsOf}}
use Rattle.name_resolution.specs.{declared.body_resolution.path.Led.{Led}, declared.body_resolution.path.ResolvedTarget.{ResolvedTarget}, declared.body_resolution.scope.Scope.{Scope as ScopeGiven}, declared.body_resolution.work.ResolvedWork.{ResolvedWork}, declared.uses.Uses.{Uses}, code.Bodies.{Scope, PointsTo, PointsToThis, HasMember, AreSteps, IsPath, IsObjectPath, AreWorks, AllWorks}, LackedNames.{LacksInClass, LacksMember}, code.Loading.{HasUses}}

-- what the names in a body mean there
abbrev pub scope : ScopeGiven → Scope
scope given = record { outlines = given.outlines.now; me = given.me.now; parameters = given.parameters.now }

-- a resolved form of the part, or `NoMember`, where it has none
abbrev pub Resolves : {Y : Type 0} → (Y → Type 0) → Result Y PartFault → Type 0
Resolves {Y} IsForm result = LoadsPart fault.NoMember ((y : Y) → ¬ IsForm y) IsForm result

-- a resolved form of each of these parts, or `NoMember`, where one has none
abbrev pub ResolvesEach : {X Y : Type 0} → (X → Y → Type 0) → List X → Result (List Y) PartFault → Type 0
ResolvesEach {X} {Y} IsForm xs result =
    LoadsPart fault.NoMember (Any (λ (x : X). (y : Y) → ¬ IsForm x y) xs) (AllZip IsForm xs) result

-- a resolved form of each of these declarations of the program, or `NoMember`, where one has none
abbrev pub ResolvesAll : {X Y : Type 0} → Program → (X → Y → Type 0) → List X → Result (List Y) LoadFault → Type 0
ResolvesAll {X} {Y} program IsForm xs result =
    LoadsOf program fault.NoMember (Any (λ (x : X). (y : Y) → ¬ IsForm x y) xs) (AllZip IsForm xs) result

-- ---- paths
-- the class that the type points to, with its number
abbrev pub FindsClass : List Outline → QType → Option (ℕ × Bor Outline) → Type 0
FindsClass outlines T answer =
    MatchOption answer ((c : ℕ) → ¬ PointsTo outlines T c) (λ found. PointsToThis outlines T found.0 found.1.now)

-- that class's property of this name, with its number
abbrev pub FindsMember : List Outline → QType → List ℕ → Option (ℕ × Bor Property) → Type 0
FindsMember outlines T name answer =
    MatchOption answer ((q : ℕ) (property : Property) → ¬ HasMember outlines T name q property)
    (λ found. HasMember outlines T name found.0 found.1.now)

-- the path, with the type of what it is declared to lead to
abbrev pub ResolvesPath : Scope → Path → Result Led PartFault → Type 0
ResolvesPath s path result =
    LoadsPart fault.NoMember ((found : MetaPath) (T : QType) → ¬ IsPath s path found T)
    (λ (led : Led). IsPath s path led.path led.kind) result

-- the path of these properties from a root of this type, with the type of what it leads to
abbrev pub ResolvesFrom : List Outline → MetaRoot → QType → List (List ℕ) → Result Led PartFault → Type 0
ResolvesFrom outlines root start names result =
    LoadsPart fault.NoMember ((steps : List Step) (T : QType) → ¬ AreSteps outlines start names steps T)
    (λ (led : Led). (led.path.root ≡ root) × AreSteps outlines start names led.path.steps led.kind) result

-- the path in the place of an object, with the class of the objects that it is declared to lead to
abbrev pub ResolvesObject : Scope → Path → Result ResolvedTarget PartFault → Type 0
ResolvesObject s path result =
    LoadsPart fault.NoMember ((found : MetaPath) (class : Outline) → ¬ IsObjectPath s path found class)
    (λ (target : ResolvedTarget). IsObjectPath s path target.path target.class.now) result

-- ---- wires
-- the numbers of the class of this name and of its first method with P
abbrev pub FindsEnd : (Heading → Type 0) → List Outline → List ℕ → Option (ℕ × ℕ) → Type 0
FindsEnd P outlines name answer =
    MatchOption answer ((c m : ℕ) → ¬ IsEnd P outlines name c m) (λ found. IsEnd P outlines name found.0 found.1)

-- ---- the program
-- what the slots and natives of this class do, which has this number
abbrev pub ResolvesClassWorks : List Outline → ℕ → Class → Result (List ResolvedWork) LoadFault → Type 0
ResolvesClassWorks outlines number class result =
    LoadsIn number class fault.NoMember (LacksInClass outlines class) (AreWorks outlines class) result

-- what the slots and natives of all classes do
abbrev pub ResolvesWorks : Program → List Outline → Result (List (List ResolvedWork)) LoadFault → Type 0
ResolvesWorks program outlines result =
    LoadsOf program fault.NoMember (Any (LacksInClass outlines) program.classes) (AllWorks outlines program.classes) result

-- what slots and natives do, the wires, the owns and the binding sites
abbrev pub ResolvesUses : Program → List Outline → Result Uses LoadFault → Type 0
ResolvesUses program outlines result =
    LoadsOf program fault.NoMember (LacksMember program outlines)
    (λ (uses : Uses). HasUses program outlines uses.works uses.wires uses.owns uses.sites) result
