-- The class `QObject` as every program has it, with which each class begins (Qt 6, "QObject Class"; docs/machine.md,
-- "Meta-objects").
use Rattle.std.specs.Prelude.{◌≡◌, false, List, [], ◌∷◌, ◌++◌, None, Some, codes}
use Rattle.basic_types.specs.declared.sig.Sig.{Sig}
use Rattle.basic_types.specs.declared.value.Value.TheVariants as value
use Rattle.basic_types.specs.Types.{value_type, text_name}
use Rattle.meta_model.specs.declared.object.ValueType.{ValueType}
use Rattle.meta_model.specs.declared.object.ValueType.TheVariants as type
use Rattle.meta_model.specs.declared.object.MetaRoot.TheVariants.{This}
use Rattle.meta_model.specs.declared.object.Statement.{Statement}
use Rattle.meta_model.specs.declared.object.Statement.TheVariants as statement
use Rattle.meta_model.specs.declared.object.Work.{Work}
use Rattle.meta_model.specs.declared.object.Work.TheVariants.{Signal, Slot}
use Rattle.meta_model.specs.declared.object.MetaMethod.{MetaMethod}
use Rattle.meta_model.specs.declared.object.MetaProperty.{MetaProperty}
use Rattle.meta_model.specs.declared.object.MetaObject.{MetaObject}
use Rattle.meta_model.specs.declared.qobject.TheConstants.{QOBJECT, OBJECT_NAME_CHANGED}
use Rattle.meta_model.specs.QObject.{destroyed, destroyed_alone, name_changed, delete_later}

abbrev pub root_method : Sig → List ValueType → Work → MetaMethod
root_method sig types work = record { sig = sig; types = types; work = work }

-- the body of `deleteLater()`: `later this;`
abbrev pub delete_later_body : List Statement
delete_later_body = statement.Later (record { root = This; steps = [] }) ∷ []

-- `destroyed(QObject*)`, `destroyed()` and `objectNameChanged(QString)`, which are signals, and the slot `deleteLater()`
abbrev pub root_methods : List MetaMethod
root_methods =
    root_method destroyed (type.Reference QOBJECT false ∷ []) Signal
    ∷ root_method destroyed_alone [] Signal
    ∷ root_method name_changed (type.Text ∷ []) Signal
    ∷ root_method delete_later [] (Slot delete_later_body)
    ∷ []

-- `objectName`, which is notified by `objectNameChanged(QString)` and empty at first
abbrev pub root_property : MetaProperty
root_property = record {
  name = codes "objectName";
  declared = value_type text_name;
  kind = type.Text;
  initial = value.Text [];
  notify = Some OBJECT_NAME_CHANGED;
}

abbrev pub root_class : MetaObject
root_class = record { name = codes "QObject"; base = None; methods = root_methods; properties = root_property ∷ [] }

-- the class's members begin with those of `QObject`
pub record BeginsAsRoot (class : MetaObject) : Type 0 where
  pub own_methods : List MetaMethod
  pub methods : class.methods ≡ root_methods ++ own_methods
  pub own_properties : List MetaProperty
  pub properties : class.properties ≡ root_property ∷ own_properties
