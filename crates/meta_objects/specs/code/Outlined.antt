-- The indexes of members that classes share with their outlines.
use Rattle.std.specs.Prelude.{List}
use Rattle.class_outlines.specs.declared.outline.Outline.{Outline}
use Rattle.class_outlines.specs.Indexed.{IndexesHeadings, IndexesDeclared}
use Rattle.meta_model.specs.declared.object.MetaObject.{MetaObject}
use Rattle.name_resolution.specs.declared.body_resolution.work.ResolvedWork.{ResolvedWork}
use Rattle.name_resolution.specs.code.Loading.{AreObjects}
use Rattle.meta_model.specs.declared.class_index.MemberIndex.{MemberIndex}

-- the classes are made of these outlines, whatever their slots and natives do
abbrev pub AreOf : List Outline → List MetaObject → Type 0
AreOf outlines classes = (works : List (List ResolvedWork)) × AreObjects outlines works classes

-- the members of a class, inherited ones too, as they are outlined
pub record IndexesOutlined (outline : Outline) (index : MemberIndex) : Type 0 where
  pub properties : IndexesDeclared outline.properties index.properties
  pub methods : IndexesHeadings outline.methods index.methods
